-- None of the regions met so far overlaps with the one.
use Rattle.std.proofs.Common.{◌≡◌, ℕ, ◌<◌, false, get_or}
use Rattle.jh_cellcfg.specs.declared.region.Region.{Region}
use Rattle.jh_check.specs.declared.rule.Rule.TheVariants.{CellsOverlap}
use Rattle.jh_check.specs.declared.spans.Span.{Span}
use Rattle.jh_check.specs.Private.Sites.{spot_of}
use Rattle.jh_check.specs.Regions.{pair_breaks}
use Rattle.jh_check.specs.Findings.{spot}
use Rattle.jh_check.proofs.verdict.any_met.Given as goal

abbrev pub invariant-loop-span : goal.invariant-loop-span
invariant-loop-span l =
    (k : ℕ) (e : Span) (d : Region) → k < l.span-index → pair_breaks CellsOverlap (spot_of l.one) (spot l.b l.other (get_or l.met k e).item (get_or l.other.memory_regions (get_or l.met k e).item d)) ≡ false
