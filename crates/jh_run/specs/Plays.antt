-- What schedules make, and when the limit stops them.
use Rattle.std.specs.Prelude.{◌≡◌, ℕ, List, [], length, IsSome}
use Rattle.jh_script.specs.declared.image.Image.{Image}
use Rattle.jh_history.specs.declared.form.Form.{Form}
use Rattle.jh_history.specs.declared.form.Form.TheVariants.{Two}
use Rattle.jh_history.specs.declared.entry.Entry.{Entry}
use Rattle.jh_history.specs.Due.{due}
use Rattle.jh_history.specs.Items.{items, played}
use Rattle.jh_laws.specs.Items.{IsCutShort}
use Rattle.jh_board.specs.BoardView.{BoardView}
use Rattle.jh_run.specs.declared.ended.Ended.{Ended}
use Rattle.jh_run.specs.Ends.{is_full}

-- the board is one of the image with the limit, and its journal has the form
abbrev pub IsBoardOf : Image → Form → ℕ → BoardView → Type 0
IsBoardOf image form limit board = board ≡ record { image = image; limit = limit; form = form; entries = board.entries }

-- the board is one of the image at the journal, of form Two, of the schedule's items, and they ended so
abbrev pub Follows : Image → ℕ → List ℕ → BoardView → Ended → Type 0
Follows image limit schedule board ended = (items image Two limit schedule [] ≡ record { entries = board.entries; full = is_full ended }) × IsBoardOf image Two limit board

-- the board is one of the image at the journal of form Two that is played, and it ended so
abbrev pub IsPlayedBoard : Image → ℕ → List ℕ → BoardView → Ended → Type 0
IsPlayedBoard image limit schedule board ended = (played image Two limit schedule ≡ record { entries = board.entries; full = is_full ended }) × IsBoardOf image Two limit board

-- the journal has `limit` entries, which the first items of the schedule make, and the next item has an entry due
abbrev pub IsFullAtItem : Image → ℕ → List ℕ → List Entry → Type 0
IsFullAtItem image limit schedule entries = (length entries ≡ limit) × IsCutShort image Two limit schedule [] entries

-- the journal has `limit` entries, and some CPU has an entry due
abbrev pub IsFullAtCpu : Image → ℕ → List Entry → Type 0
IsFullAtCpu image limit entries = (length entries ≡ limit) × ((cpu : ℕ) × IsSome (due image Two entries cpu))
