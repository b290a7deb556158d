-- The table of the cells so far.
use Rattle.std.proofs.Common.{◌≡◌, take}
use Rattle.jh_history.specs.History.{facts}
use Rattle.jh_shape.specs.Lives.{configs_of}
use Rattle.jh_pins.specs.Holders.{table_of}
use Rattle.jh_pins.proofs.live.table_of_board.Given as goal

abbrev pub invariant-loop-index : goal.invariant-loop-index
invariant-loop-index l = l.table ≡ table_of l.board.image.system.root (take l.index (configs_of (facts l.board.image l.board.form l.board.entries).cells))
