-- The index is that of the cell's regions.
use Rattle.std.proofs.Common.{◌≡◌, Some, get_or, List, ap, sym, subst, ◌∙◌}
use Rattle.std.specs.Prelude.{All}
use Rattle.jh_cellcfg.specs.declared.region.Region.{Region}
use Rattle.jh_cellcfg.specs.Regions.{AreInRange}
use Rattle.jh_mmio.specs.Index.{IsRegionAt}
use Rattle.jh_closed.specs.Closed.{all_regions}
use Rattle.jh_board.specs.Private.Found.{IsIndexOf}
use Rattle.jh_board.proofs.CellsLemmas.{regions_some, regions_within}
use Rattle.jh_board.proofs.cells.LiveCells.region.Goals as goal
use Rattle.jh_board.proofs.cells.LiveCells.region.Goals.{After-at}

index : (c : After-at) → IsIndexOf c.self.inside.cells.lives c.args.id (Some c.in-Some.index)
index c = subst (IsIndexOf c.self.inside.cells.lives c.args.id) c.in-Some.is c.index_of.ensures.found

own : (c : After-at) → c.by_address.result.now ≡ get_or (all_regions c.self.inside.cells.lives) c.in-Some.index c.by_address.result.now
own c =
    let P : List Region → Type 0 = λ r. r ≡ get_or (all_regions c.self.inside.cells.lives) c.in-Some.index r in
    subst P (sym c.by_address.ensures) (c.index.ensures ∙ ap (λ (l : List (List Region)). get_or l c.in-Some.index c.index.result.now) c.self.invariant.regions)

within : (c : After-at) → All AreInRange (all_regions c.self.inside.cells.lives)
within c = subst (λ (l : List (List Region)). All AreInRange l) c.self.invariant.regions c.self.invariant.within

pub returns-in-Some-clause-found : goal.returns-in-Some-clause-found
returns-in-Some-clause-found c =
    rw (← c.self.view_is)
    (subst (λ (rs : List Region). IsRegionAt rs c.args.at c.at.result) (sym (regions_some c.self.inside.cells.lives c.args.id c.in-Some.index c.by_address.result.now (index c) (own c))) c.at.ensures)

pub returns-in-Some-clause-within : goal.returns-in-Some-clause-within
returns-in-Some-clause-within c = regions_within c.self.inside.cells.lives c.args.id c.in-Some.index c.by_address.result.now c.at.result (index c) (own c) (within c) c.at.ensures.own
