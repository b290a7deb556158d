-- The text of the maps of the cells so far.
use Rattle.std.proofs.Common.{take}
use Rattle.jh_history.specs.History.{facts}
use Rattle.jh_shape.specs.Lives.{all_cells}
use Rattle.jh_run.specs.Maps.{AreMaps}
use Rattle.jh_run.proofs.maps.print_maps.Given as goal

abbrev pub invariant-loop-number : goal.invariant-loop-number
invariant-loop-number l =
    AreMaps l.board.image (facts l.board.image l.board.form l.board.entries).cells (take l.number (all_cells l.board.image.system.root (facts l.board.image l.board.form l.board.entries).cells)) l.text.items
