-- The regions of a live cell, where the check finds nothing.
use Rattle.std.proofs.Common.{List, sym, ◌∙◌, ap, subst}
use Rattle.std.specs.Prelude.{AllPairs}
use Rattle.jh_cellcfg.specs.declared.region.Region.{Region}
use Rattle.jh_cellcfg.specs.Regions.{SharesNoAddress, AreInRange}
use Rattle.jh_history.specs.Lives.{cell_in}
use Rattle.jh_board.proofs.RegionMapLemmas.{cell_within, cell_apart}
use Rattle.jh_board.proofs.overview.regions_of.Goals as goal

pub returns-in-Some-clause-within : goal.returns-in-Some-clause-within
returns-in-Some-clause-within c =
    let P : List Region → Type 0 = λ regions. AreInRange regions in
    subst P (sym c.as_slice.ensures.value) (cell_within c.args.image.now c.args.cells.now.lives c.args.id c.in-Some.cell.now c.requires
    (sym (ap (cell_in c.args.image.now c.args.cells.now.lives) c.from.ensures) ∙ sym c.in-Some.ensures))

pub returns-in-Some-clause-apart : goal.returns-in-Some-clause-apart
returns-in-Some-clause-apart c =
    let P : List Region → Type 0 = λ regions. AllPairs SharesNoAddress regions in
    subst P (sym c.as_slice.ensures.value) (cell_apart c.args.image.now c.args.cells.now.lives c.args.id c.in-Some.cell.now c.requires
    (sym (ap (cell_in c.args.image.now c.args.cells.now.lives) c.from.ensures) ∙ sym c.in-Some.ensures))
