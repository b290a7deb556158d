-- One cell more.
use Rattle.std.proofs.Common.{◌≡◌, ◌+◌, ◌-◌, false, ◌||◌, List, [], ◌∷◌, ◌++◌, length, map, sym, ap, subst, ◌∙◌, arith}
use Rattle.std.specs.Prelude.{All, min}
use Rattle.std.proofs.lemmas.List.{map-append}
use Rattle.std.proofs.lemmas.List.Elements.{All-push}
use Rattle.jh_cellcfg.specs.declared.config.CellConfig.{CellConfig}
use Rattle.jh_cellcfg.specs.declared.live.Live.{Live}
use Rattle.jh_cellcfg.specs.declared.region.Region.{Region}
use Rattle.jh_cellcfg.specs.Regions.{AreInRange}
use Rattle.jh_shape.specs.Lives.{configs_of, new_live}
use Rattle.jh_board.specs.LiveView.{LiveView}
use Rattle.jh_closed.specs.Closed.{is_closed_by, is_taken, all_regions, count_regions}
use Rattle.jh_closed.proofs.Public.{closed_added}
use Rattle.jh_board.proofs.CellsLemmas.{configs_added, regions_added}
use Rattle.jh_board.proofs.cells.LiveCells.add.Goals as goal

pub close_cell-requires-clause-within : goal.close_cell-requires-clause-within
close_cell-requires-clause-within c = subst AreInRange (sym c.requires.regions) c.requires.within

pub close_cell-requires-clause-room : goal.close_cell-requires-clause-room
close_cell-requires-clause-room c =
    let places : c.args.self.now.spare_regions ≡ min c.self.inside.closed.room 18446744073709551615 - (c.self.inside.region_count + 1) = ap (λ (v : LiveView). v.spare_regions) (sym c.self.view_is) in
    let own : length c.args.regions ≡ length c.args.new.memory_regions = ap (λ (r : List Region). length r) c.requires.regions in
    let room = c.self.invariant.room in
    let few = c.self.invariant.few in
    let want = c.requires.spare_regions in
    omega arith

pub invariant_of-self : goal.invariant_of-self
invariant_of-self c =
    let lives = c.self.inside.cells.lives in
    let items = c.self.inside.regions.items in
    let new = c.args.new in
    let old = c.self.invariant in
    let all : c.add.new.self.lives ≡ lives ++ new_live new ∷ [] = c.in-Ok.ensures.ok in
    let configs : configs_of c.add.new.self.lives ≡ configs_of lives ++ new ∷ [] = ap (λ (l : List Live). configs_of l) all ∙ configs_added lives new in
    let places : c.args.self.now.spare_regions ≡ min c.self.inside.closed.room 18446744073709551615 - (c.self.inside.region_count + 1) = ap (λ (v : LiveView). v.spare_regions) (sym c.self.view_is) in
    let own : length c.args.regions ≡ length new.memory_regions = ap (λ (r : List Region). length r) c.requires.regions in
    let room = old.room in
    let few = old.few in
    let len = c.len.ensures in
    let closed = c.close_cell.ensures.few in
    let more = c.close_cell.ensures.room in
    let want = c.requires.spare_regions in
    let count = old.region_count in
    let counted = regions_added items c.args.regions in
    let recounted : count_regions c.push_reserved.new.self.items ≡ count_regions (items ++ c.args.regions ∷ []) = ap (λ (l : List (List Region)). count_regions l) c.push_reserved.ensures.items in
    record {
      regions = c.push_reserved.ensures.items
          ∙ ap (λ (l : List (List Region)). l ++ c.args.regions ∷ []) old.regions
          ∙ ap (λ (r : List Region). all_regions lives ++ r ∷ []) c.requires.regions
          ∙ sym (map-append (λ (x : CellConfig). x.memory_regions) (configs_of lives) (new ∷ []))
          ∙ ap (λ (cs : List CellConfig). map (λ (x : CellConfig). x.memory_regions) cs) (sym configs);
      within = subst (λ (l : List (List Region)). All AreInRange l) (sym c.push_reserved.ensures.items)
          (All-push AreInRange items c.args.regions old.within (subst AreInRange (sym c.requires.regions) c.requires.within));
      closed = λ place.
          c.close_cell.ensures.bytes place
          ∙ ap (λ b. b || is_taken false c.args.regions place) (old.closed place)
          ∙ ap (λ (rs : List Region). is_closed_by lives place || is_taken false rs place) c.requires.regions
          ∙ sym (closed_added lives (new_live new) place)
          ∙ ap (λ (l : List Live). is_closed_by l place) (sym all);
      few = omega arith;
      region_count = omega arith;
      room = omega arith;
      used = c.count_pages-self-inside.ensures;
    }
