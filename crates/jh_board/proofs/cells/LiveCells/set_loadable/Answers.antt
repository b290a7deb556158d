-- The cell at the index is the one with the id; the configurations and the regions stay.
use Rattle.std.proofs.Common.{◌≡◌, ◌+◌, ◌-◌, List, map, set, sym, ap, subst, ◌∙◌, arith}
use Rattle.std.specs.Prelude.{All}
use Rattle.jh_cellcfg.specs.declared.config.CellConfig.{CellConfig}
use Rattle.jh_cellcfg.specs.declared.config.SystemConfig.{SystemConfig}
use Rattle.jh_cellcfg.specs.declared.region.Region.{Region}
use Rattle.jh_cellcfg.specs.Regions.{AreInRange}
use Rattle.jh_shape.specs.Pages.{pages_of}
use Rattle.jh_shape.specs.Lives.{marks_of, configs_of, marked}
use Rattle.jh_closed.specs.Closed.{all_regions, count_regions}
use Rattle.jh_board.proofs.CellsLemmas.{cell_at, lists_len, marked_none}
use Rattle.jh_board.proofs.cells.LiveCells.set_loadable.Goals as goal

pub returns-in_default-clause-lives : goal.returns-in_default-clause-lives
returns-in_default-clause-lives c = rw (← c.self.view_is) (marked_none c.self.inside.cells.lives c.args.id c.args.on c.in_default.ensures.found)

pub close_again-requires-clause-few : goal.close_again-requires-clause-few
close_again-requires-clause-few c =
    let few = c.live_cells_differ.ensures.few in
    let lists = lists_len c.self.inside.cells.lives c.self.inside.regions.items c.self.invariant.regions in
    let old = c.self.inside.regions.ok.0 in
    let len = c.as_slice.ensures.len in
    omega arith

pub close_again-requires-clause-within : goal.close_again-requires-clause-within
close_again-requires-clause-within c = subst (λ (l : List (List Region)). All AreInRange l) (sym c.as_slice.ensures.value) c.self.invariant.within

pub close_again-requires-clause-room : goal.close_again-requires-clause-room
close_again-requires-clause-room c =
    let same : count_regions c.as_slice.result.now ≡ count_regions c.self.inside.regions.items = ap (λ (l : List (List Region)). count_regions l) c.as_slice.ensures.value in
    let count = c.self.invariant.region_count in
    let room = c.self.invariant.room in
    omega arith

pub invariant_of-self : goal.invariant_of-self
invariant_of-self c =
    let old = c.self.invariant in
    let new = c.set_loadable.new.self.lives in
    let configs : configs_of new ≡ configs_of c.self.inside.cells.lives = c.set_loadable.ensures.list in
    let regions : c.self.inside.regions.items ≡ all_regions new = old.regions ∙ ap (λ (cs : List CellConfig). map (λ (x : CellConfig). x.memory_regions) cs) (sym configs) in
    let same : count_regions c.as_slice.result.now ≡ count_regions c.self.inside.regions.items = ap (λ (l : List (List Region)). count_regions l) c.as_slice.ensures.value in
    let count = old.region_count in
    let few = c.close_again.ensures.few in
    let room = c.close_again.ensures.room in
    let was = old.room in
    record {
      regions = regions;
      within = old.within;
      closed = λ place. c.close_again.ensures.bytes new (sym (c.as_slice.ensures.value ∙ regions)) c.loadable.ensures place;
      few = omega arith;
      region_count = omega arith;
      room = omega arith;
      used = old.used
          ∙ ap (λ (cs : List CellConfig). pages_of c.self.inside.cells.system.root.memory_regions cs) (sym configs)
          ∙ ap (λ (s : SystemConfig). pages_of s.root.memory_regions (configs_of new)) (sym c.set_loadable.ensures.system);
    }

pub returns-clause-lives : goal.returns-clause-lives
returns-clause-lives c =
    let lives = c.self.inside.cells.lives in
    let new = c.set_loadable.new.self.lives in
    let cell = cell_at lives c.args.id c.in-Some.index c.in-Some.ensures.found in
    let index : c.in-Some.index + 1 - 1 ≡ c.in-Some.index = omega arith in
    rw (← c.self.view_is)
    (c.a_cell_is_marked_by_its_id.ensures c.in-Some.index cell.0 c.args.on new cell.1.at (record { configs = c.set_loadable.ensures.list; marks = c.set_loadable.ensures.marks ∙ ap (λ k. set (marks_of lives) k c.args.on) index })
    ∙ ap (λ id. map (marked id c.args.on) lives) cell.1.is)
