-- The objects so far.
use Rattle.std.proofs.Common.{◌≡◌, map, string_bytes, take}
use Rattle.jh_plan.specs.SpecText.{region_text, with_commas}
use Rattle.jh_plan.proofs.text.print_regions.Given as goal

abbrev pub invariant-loop-number : goal.invariant-loop-number
invariant-loop-number l = string_bytes l.text ≡ with_commas (map region_text (take l.number l.regions))
