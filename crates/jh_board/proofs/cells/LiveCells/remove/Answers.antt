-- The cell at the index is the one with the id, and the others stay.
use Rattle.std.proofs.Common.{◌≡◌, ◌+◌, ◌-◌, List, remove, refl, sym, ap, subst, ◌∙◌, arith}
use Rattle.std.specs.Prelude.{All}
use Rattle.jh_cellcfg.specs.declared.region.Region.{Region}
use Rattle.jh_cellcfg.specs.Regions.{AreInRange}
use Rattle.jh_life.specs.Changes.{without}
use Rattle.jh_closed.specs.Closed.{all_regions, count_regions}
use Rattle.jh_board.proofs.CellsLemmas.{cell_at, removed_none, lists_removed, lists_len, regions_left}
use Rattle.jh_board.proofs.ListLemmas.{All_removed}
use Rattle.jh_board.proofs.cells.LiveCells.remove.Goals as goal

pub returns-in_default-clause-lives : goal.returns-in_default-clause-lives
returns-in_default-clause-lives c = rw (← c.self.view_is) (removed_none c.self.inside.cells.lives c.args.id c.in_default.ensures.found)

pub overflow_sub-self : goal.overflow_sub-self
overflow_sub-self c =
    let lists = c.self.inside.regions.items in
    let sum = regions_left c.self.inside.cells.lives lists (remove lists c.in-Some.index) c.list.result.now c.in-Some.index c.len.result c.index-list-index.result
    c.self.invariant.regions refl c.list.ensures.value c.in-Some.ensures.found.within c.len.ensures in
    let count = c.self.invariant.region_count in
    omega arith

pub close_again-requires-clause-few : goal.close_again-requires-clause-few
close_again-requires-clause-few c =
    let lives = c.self.inside.cells.lives in
    let few = c.list.ensures.few in
    let count = c.list.ensures.count in
    let lists = lists_len lives c.self.inside.regions.items c.self.invariant.regions in
    let old = c.self.inside.regions.ok.0 in
    let gone = c.remove.ensures.len in
    let len = c.as_slice.ensures.len in
    omega arith

pub close_again-requires-clause-within : goal.close_again-requires-clause-within
close_again-requires-clause-within c =
    subst (λ (l : List (List Region)). All AreInRange l) (sym (c.as_slice.ensures.value ∙ c.remove.ensures.items)) (All_removed AreInRange c.self.inside.regions.items c.in-Some.index c.self.invariant.within)

pub close_again-requires-clause-room : goal.close_again-requires-clause-room
close_again-requires-clause-room c =
    let sum = regions_left c.self.inside.cells.lives c.self.inside.regions.items c.as_slice.result.now c.list.result.now c.in-Some.index c.len.result c.index-list-index.result
    c.self.invariant.regions (c.as_slice.ensures.value ∙ c.remove.ensures.items) c.list.ensures.value c.in-Some.ensures.found.within c.len.ensures in
    let count = c.self.invariant.region_count in
    let room = c.self.invariant.room in
    omega arith

pub invariant_of-self : goal.invariant_of-self
invariant_of-self c =
    let old = c.self.invariant in
    let lives = c.self.inside.cells.lives in
    let new = c.drop_cell.new.self.lives in
    let lists = c.self.inside.regions.items in
    let left = c.remove.new.self.items in
    let all : left ≡ all_regions new = lists_removed lives new lists left c.in-Some.index (c.in-Some.index + 1 - 1) old.regions c.remove.ensures.items c.drop_cell.ensures.lives (omega arith) in
    let same : count_regions c.as_slice.result.now ≡ count_regions left = ap (λ (l : List (List Region)). count_regions l) c.as_slice.ensures.value in
    let sum : count_regions left + c.len.result ≡ count_regions lists
    = regions_left lives lists left c.list.result.now c.in-Some.index c.len.result c.index-list-index.result old.regions c.remove.ensures.items c.list.ensures.value c.in-Some.ensures.found.within c.len.ensures in
    let count = old.region_count in
    let few = c.close_again.ensures.few in
    let room = c.close_again.ensures.room in
    let was = old.room in
    record {
      regions = all;
      within = subst (λ (l : List (List Region)). All AreInRange l) (sym c.remove.ensures.items) (All_removed AreInRange lists c.in-Some.index old.within);
      closed = λ place. c.close_again.ensures.bytes new (sym (c.as_slice.ensures.value ∙ all)) c.loadable.ensures place;
      few = omega arith;
      region_count = omega arith;
      room = omega arith;
      used = c.count_pages-self-inside.ensures;
    }

pub returns-clause-lives : goal.returns-clause-lives
returns-clause-lives c =
    let lives = c.self.inside.cells.lives in
    let cell = cell_at lives c.args.id c.in-Some.index c.in-Some.ensures.found in
    let index : c.in-Some.index + 1 - 1 ≡ c.in-Some.index = omega arith in
    rw (← c.self.view_is)
    (c.drop_cell.ensures.lives
    ∙ ap (λ k. remove lives k) index
    ∙ c.a_cell_is_dropped_by_its_id.ensures c.in-Some.index cell.0 cell.1.at
    ∙ ap (λ id. without id lives) cell.1.is)
