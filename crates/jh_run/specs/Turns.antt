-- What a turn of a running board did.
use Rattle.std.specs.Prelude.{ℕ, Result, Ok, Err}
use Rattle.jh_board.specs.BoardView.{BoardView}
use Rattle.jh_board.specs.Turns.{Turns, RefusesTurn}
use Rattle.jh_board.specs.declared.turn.Turn.{Turn}
use Rattle.jh_board.specs.declared.turn.TurnFault.{TurnFault}

-- from old, a turn of the CPU answers this or is refused for it, and leaves new
abbrev pub Takes : BoardView → ℕ → Result Turn TurnFault → BoardView → Type 0
Takes old cpu (Ok turn) new = Turns old cpu turn new
Takes old cpu (Err fault) new = RefusesTurn old cpu fault new
