-- A live cell has a map.
use Rattle.jh_history.specs.History.{facts}
use Rattle.jh_run.proofs.MapsLemmas.{lives_on}
use Rattle.jh_run.proofs.maps.push_cell_map.Goals as goal

pub unreachable-requires : goal.unreachable-requires
unreachable-requires c =
    let image = c.args.board.now.image in
    let none = rw c.in-None.is at c.in_ok-runs.ensures in
    lives_on image (facts image c.args.board.now.form c.args.board.now.entries).cells c.args.cell.now c.requires none
