-- The numbers so far.
use Rattle.std.proofs.Common.{◌≡◌, map, string_bytes, decimal, take}
use Rattle.jh_plan.specs.SpecText.{with_commas}
use Rattle.jh_plan.proofs.text.print_numbers.Given as goal

abbrev pub invariant-loop-number : goal.invariant-loop-number
invariant-loop-number l = string_bytes l.text ≡ with_commas (map decimal (take l.number l.numbers))
