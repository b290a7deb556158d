-- The text of what the cells so far hold.
use Rattle.std.proofs.Common.{take}
use Rattle.jh_history.specs.History.{facts}
use Rattle.jh_shape.specs.Lives.{all_cells}
use Rattle.jh_pins.specs.Texts.{AreHeld}
use Rattle.jh_pins.proofs.live.print_pins.Given as goal

abbrev pub invariant-loop-number : goal.invariant-loop-number
invariant-loop-number l = AreHeld l.table (take l.number (all_cells l.board.image.system.root (facts l.board.image l.board.form l.board.entries).cells)) l.text.items
