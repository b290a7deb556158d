-- What is made for a CPU, by the image, the limit and the journal.
use Rattle.std.specs.Prelude.{ℕ, Option}
use Rattle.jh_script.specs.declared.image.Image.{Image}
use Rattle.jh_history.specs.declared.entry.Entry.{Entry}
use Rattle.jh_history.specs.Log.{Log}
use Rattle.jh_board.specs.BoardView.{BoardView}
use Rattle.jh_board.specs.Turns.{MakesDue}

-- the board of the image, with the limit and the journal
abbrev pub board_with : Image → ℕ → Log → BoardView
board_with image limit journal = record { image = image; limit = limit; form = journal.form; entries = journal.entries }

-- the board with this journal makes what is due to the CPU, and has that journal then
abbrev pub Advances : Image → ℕ → Log → ℕ → Option Entry → Log → Type 0
Advances image limit old cpu made new = MakesDue (board_with image limit old) cpu made (board_with image limit new)
