-- To read on from here gives what reading from the front gives.
use Rattle.std.proofs.Common.{◌≡◌, length}
use Rattle.jh_text.specs.Private.Reading.{digits_until}
use Rattle.jh_text.proofs.reader.digits_until.Given as goal

abbrev pub invariant-loop-rest : goal.invariant-loop-rest
invariant-loop-rest l = digits_until l.radix l.end l.n l.rest ≡ digits_until l.radix l.end 0 l.text

abbrev pub decreases-loop-rest : goal.decreases-loop-rest
decreases-loop-rest l = length l.rest
