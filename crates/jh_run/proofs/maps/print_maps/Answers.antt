-- One map more.
use Rattle.std.proofs.Common.{◌≡◌, ◌+◌, ◌∷◌, ◌++◌, [], Some, sym, ap, ◌∙◌}
use Rattle.std.specs.Prelude.{slice_get, take}
use Rattle.std.proofs.lemmas.List.{take_more}
use Rattle.std.proofs.lemmas.Option.{slice_get_within, get_or_from_slice_get}
use Rattle.jh_cellcfg.specs.declared.config.CellConfig.{CellConfig}
use Rattle.jh_history.specs.History.{facts}
use Rattle.jh_shape.specs.Lives.{all_cells}
use Rattle.jh_run.proofs.MapsLemmas.{one_more}
use Rattle.jh_run.proofs.maps.print_maps.Goals as goal

pub loop-number-preserved : goal.loop-number-preserved
loop-number-preserved c =
    let image = c.args.board.now.image in
    let lives = (facts image c.args.board.now.form c.args.board.now.entries).cells in
    let all = all_cells image.system.root lives in
    let number = c.loop-number.number in
    let cell = c.in-Some.cell.now in
    let at : slice_get all number ≡ Some cell = sym (rw c.in-Some.is at c.cell.ensures) in
    let made = c.in_ok-push_cell_map-in-Some.ensures in
    let next : take (number + 1) all ≡ take number all ++ cell ∷ [] = take_more all number cell (slice_get_within all number cell at) ∙ ap (λ (x : CellConfig). take number all ++ x ∷ []) (get_or_from_slice_get all number cell cell at) in
    rw (next, made.2) (one_more image lives (take number all) cell made.0 c.loop-number.text.items c.loop-number.invariant made.1)
