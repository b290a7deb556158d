-- Where there is no word, nothing changes.
use Rattle.std.proofs.Common.{refl}
use Rattle.jh_board.proofs.devices.write_endpoint_word_if.Goals as goal

pub returns-in_default-clause-bytes : goal.returns-in_default-clause-bytes
returns-in_default-clause-bytes c = λ q. rw c.in_default.is refl
