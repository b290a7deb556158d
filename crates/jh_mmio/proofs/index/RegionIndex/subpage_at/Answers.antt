-- The region that has the first byte is the only one that may take the access.
use Rattle.std.proofs.Common.{◌≡◌, List, Some, None, sym, subst, ◌∙◌}
use Rattle.std.specs.Prelude.{position}
use Rattle.jh_num.specs.Bytes.{has_byte}
use Rattle.jh_cellcfg.specs.declared.region.Region.{Region}
use Rattle.jh_cellcfg.proofs.Public.{no_region}
use Rattle.jh_mmio.specs.Dispatch.{takes_all}
use Rattle.jh_mmio.proofs.HittingLemmas.{subpage_found, subpage_other, subpage_none}
use Rattle.jh_mmio.proofs.index.RegionIndex.subpage_at.Goals as goal

pub returns-in_err-number : goal.returns-in_err-number
returns-in_err-number c =
    let same = c.as_slice-regions.ensures.value ∙ c.self.view_is in
    let P : List Region → Type 0 = λ xs. None ≡ position (takes_all (has_byte c.args.closed.now.ranges) c.args.at c.args.width) xs in
    c.from_residual.ensures ∙ subst P same (subpage_none c.as_slice-regions.result.now (has_byte c.args.closed.now.ranges) c.args.at c.args.width no_region c.requires.some c.in_err-number.ensures)

pub returns-then-takes_all : goal.returns-then-takes_all
returns-then-takes_all c =
    let same = c.as_slice-regions.ensures.value ∙ c.self.view_is in
    let P : List Region → Type 0 = λ xs. Some c.in_ok-number.number ≡ position (takes_all (has_byte c.args.closed.now.ranges) c.args.at c.args.width) xs in
    subst P same (subpage_found c.as_slice-regions.result.now (has_byte c.args.closed.now.ranges) c.args.at c.args.width c.in_ok-number.number no_region c.requires.some c.in_ok-number.ensures (sym c.if-takes_all.ensures))

pub returns-else-takes_all : goal.returns-else-takes_all
returns-else-takes_all c =
    let same = c.as_slice-regions.ensures.value ∙ c.self.view_is in
    let P : List Region → Type 0 = λ xs. None ≡ position (takes_all (has_byte c.args.closed.now.ranges) c.args.at c.args.width) xs in
    subst P same (subpage_other c.as_slice-regions.result.now (has_byte c.args.closed.now.ranges) c.args.at c.args.width c.in_ok-number.number no_region c.requires.some c.in_ok-number.ensures (sym c.if-takes_all.ensures))
