-- What items do to a board.
use Rattle.std.specs.Prelude.{ℕ, Bool, true, false, List}
use Rattle.jh_laws.specs.Items.{ItemsLead, IsCutShort}
use Rattle.jh_board.specs.BoardView.{BoardView}
use Rattle.jh_run.specs.Plays.{IsBoardOf}

-- the items of the CPUs lead from the one board to the other: to their end, or until the limit stops one
abbrev pub Ran : BoardView → List ℕ → Bool → BoardView → Type 0
Ran old cpus false new = ItemsLead old.image old.form old.limit cpus old.entries new.entries × IsBoardOf old.image old.form old.limit new
Ran old cpus true new = IsCutShort old.image old.form old.limit cpus old.entries new.entries × IsBoardOf old.image old.form old.limit new
