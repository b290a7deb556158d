-- No region has an address of the function or of the windows.
use Rattle.jh_talk.proofs.ClearLemmas.{follower_clear, leader_clear}
use Rattle.jh_talk.proofs.laws.devices_answer_in_no_memory.Goals as goal

pub returns : goal.returns
returns c = record { leader = leader_clear; follower = follower_clear }
