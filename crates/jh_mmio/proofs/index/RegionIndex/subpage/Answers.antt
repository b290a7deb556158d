-- The region that has the first byte is the only one that may have the access.
use Rattle.std.proofs.Common.{◌≡◌, ℕ, Bool, Option, find, sym, subst, ◌∙◌}
use Rattle.jh_cellcfg.specs.declared.region.Region.{Region}
use Rattle.jh_mmio.specs.Dispatch.{takes_all, unless_closed}
use Rattle.jh_mmio.proofs.HittingLemmas.{whole_found, whole_other, whole_none}
use Rattle.jh_mmio.proofs.index.RegionIndex.subpage.Goals as goal

pub returns-then-has_whole-clause-found : goal.returns-then-has_whole-clause-found
returns-then-has_whole-clause-found c = whole_found c.args.self.now c.args.at c.args.width c.in_ok-region.region c.requires c.in_ok-region.ensures (sym c.has_whole.ensures.whole ∙ c.if-has_whole.true)

pub returns-else-has_whole-clause-found : goal.returns-else-has_whole-clause-found
returns-else-has_whole-clause-found c = whole_other c.args.self.now c.args.at c.args.width c.in_ok-region.region c.requires c.in_ok-region.ensures (sym c.has_whole.ensures.whole ∙ c.if-has_whole.false)

pub returns-in_err-region-clause-found : goal.returns-in_err-region-clause-found
returns-in_err-region-clause-found c =
    let P : Option Region → Type 0 = λ found. (closed : ℕ → Bool) → find (takes_all closed c.args.at c.args.width) c.args.self.now ≡ unless_closed closed c.args.at c.args.width found in
    subst P (sym c.from_residual.ensures) (whole_none c.args.self.now c.args.at c.args.width c.requires c.in_err-region.ensures)
