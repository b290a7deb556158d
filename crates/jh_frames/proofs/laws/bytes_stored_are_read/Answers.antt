-- The bytes from the place on are those of the list, one by one.
use Rattle.jh_frames.proofs.WordLemmas.{stored_spelled}
use Rattle.jh_frames.proofs.laws.bytes_stored_are_read.Goals as goal

pub returns : goal.returns
returns c = λ write. stored_spelled write.before write.after write.at write.bytes write.are
