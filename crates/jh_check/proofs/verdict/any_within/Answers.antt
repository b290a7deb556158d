-- Regions that rise apart or have an index don't meet, and else all pairs are tried.
use Rattle.std.proofs.Common.{List, sym, ap, subst}
use Rattle.jh_cellcfg.specs.declared.region.Region.{Region}
use Rattle.jh_check.specs.Private.Spans.{AreDisjoint, AreSpansOf}
use Rattle.jh_check.specs.Lists.{is_any}
use Rattle.jh_check.proofs.BreakLemmas.{between_indexed, between_stand}
use Rattle.jh_check.proofs.verdict.any_within.Goals as goal
use Rattle.jh_check.proofs.verdict.any_within.Goals.{in-Some, in-None}

pub returns : goal.returns
returns c = elim c.match-branch-2.branch [
  | in-Some w ↦
      let spans = w.in-Some.field-0.items in
      let k : AreSpansOf c.args.rule c.as_slice-2.result.now spans = rw w.in-Some.is at c.in_ok-index.ensures in
      let index : AreSpansOf c.args.rule c.args.cell.now.memory_regions spans = subst (λ (xs : List Region). AreSpansOf c.args.rule xs spans) c.as_slice-2.ensures.value k in
      rw w.result-is (sym (ap is_any (between_indexed c.args.rule c.args.number c.args.cell.now spans c.requires index)))
  | in-None w ↦ rw w.result-is w.any_between.ensures
]

pub returns-then-are_disjoint : goal.returns-then-are_disjoint
returns-then-are_disjoint c =
    let stand = subst (λ regions. AreDisjoint c.args.rule regions) c.as_slice.ensures.value (c.are_disjoint.ensures c.if-are_disjoint.true) in
    sym (ap is_any (between_stand c.args.rule c.args.number c.args.cell.now c.requires stand))
