-- Carrying on from the number so far gives the value of all digits, or none where they have none.
use Rattle.std.proofs.Common.{◌≡◌, drop}
use Rattle.jh_script.specs.Private.Reading.{value_after}
use Rattle.jh_script.specs.Numbers.{value_of}
use Rattle.jh_script.proofs.number.read_digits.Given as goal

abbrev pub invariant-loop-byte : goal.invariant-loop-byte
invariant-loop-byte l = value_after l.base l.n (drop l.byte-index l.digits) ≡ value_of l.base l.digits
