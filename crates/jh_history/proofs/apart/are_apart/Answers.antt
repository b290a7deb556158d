-- Each item beside each later one.
use Rattle.std.proofs.Common.{sym, ◌∙◌, inl, inr, arith}
use Rattle.std.proofs.lemmas.Bool.{false≢true, cases_eq}
use Rattle.jh_history.proofs.ApartLemmas.{beside_later, later_beside}
use Rattle.jh_history.proofs.apart.are_apart.Goals as goal

pub returns-then-not-is_apart_from_all : goal.returns-then-not-is_apart_from_all
returns-then-not-is_apart_from_all g c = (
  λ e. absurd (false≢true e),
  λ pairs. sym c.if-not-is_apart_from_all.true ∙ c.is_apart_from_all.ensures.1 (later_beside g.T.Apart.IsApart c.args.items.now c.loop-i.i c.index-items-i.result c.loop-i-test.true c.index-items-i.is pairs),
)

pub loop-i-preserved : goal.loop-i-preserved
loop-i-preserved g c = λ i j d below lt within. elim (cases_eq i c.loop-i.i) [
  | inl same ↦ rw same (beside_later g.T.Apart.IsApart c.args.items.now c.loop-i.i c.index-items-i.result c.loop-i-test.true c.index-items-i.is (c.is_apart_from_all.ensures.0 c.if-not-is_apart_from_all.false) j d (omega arith) within)
  | inr other ↦ c.loop-i.invariant i j d (omega arith) lt within
]
