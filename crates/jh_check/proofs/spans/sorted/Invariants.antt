-- Regions so far that take part have their spans, and no span has a later region's number.
use Rattle.std.proofs.Common.{◌≡◌, ℕ, ◌<◌, true, get_or}
use Rattle.std.specs.List.{Contains}
use Rattle.jh_cellcfg.specs.declared.region.Region.{Region}
use Rattle.jh_check.specs.declared.spans.Span.{Span}
use Rattle.jh_check.specs.Private.Spans.{takes_part, span_of}
use Rattle.jh_check.proofs.spans.sorted.Given as goal

abbrev pub invariant-loop-item : goal.invariant-loop-item
invariant-loop-item l =
    ((r : ℕ) (d : Region) → r < l.item → takes_part l.rule (get_or l.regions r d) ≡ true → Contains l.spans.items (span_of l.rule r (get_or l.regions r d)))
    × ((x : Span) → Contains l.spans.items x → x.item < l.item)
