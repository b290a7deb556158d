-- Each region so far that may follow has its span in the list.
use Rattle.std.proofs.Common.{◌≡◌, ℕ, ◌<◌, true, get_or}
use Rattle.std.specs.List.{Contains}
use Rattle.jh_cellcfg.specs.declared.region.Region.{Region}
use Rattle.jh_check.specs.Private.Spans.{span_of}
use Rattle.jh_check.specs.Private.Envelopes.{may_follow}
use Rattle.jh_check.proofs.envelope.sorted.Given as goal

abbrev pub invariant-loop-item : goal.invariant-loop-item
invariant-loop-item l =
    (r : ℕ) (d : Region) → r < l.item → may_follow l.rule l.pass l.b (get_or l.regions r d) ≡ true → Contains l.spans.items (span_of l.rule r (get_or l.regions r d))
