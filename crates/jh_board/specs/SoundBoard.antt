-- What is true of every board.
use Rattle.std.specs.Prelude.{◌<◌, ◌≤◌, length}
use Rattle.jh_history.specs.History.{facts}
use Rattle.jh_history.specs.Due.{IsLegal}
use Rattle.jh_history.specs.Admitted.{IsAdmitted}
use Rattle.jh_board.specs.Means.{Means}
use Rattle.jh_board.specs.declared.board.Board.TheInside.{Inside}

-- the board's image is admitted, its journal is legal and within the limit, what is held is as the facts say, and the
-- CPU that is kept as the last one's is one of 16
pub record IsSoundBoard (b : Inside) : Type 0 where
  pub admitted : IsAdmitted b.image
  pub legal : IsLegal b.image b.journal.form b.journal.entries
  pub within : length b.journal.entries ≤ b.limit
  pub means : Means b.image b.held.value (facts b.image b.journal.form b.journal.entries)
  pub last : b.last < 16
