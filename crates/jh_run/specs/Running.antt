-- A running board as what callers take turns on: its meaning for the lock.
use Rattle.std.specs.Prelude.{◌≡◌, ◌<◌, ℕ, List, [], ◌∷◌, ◌++◌, length, Some, None, IsSome, Result, Ok, Err, IsTrue}
use Rattle.jh_history.specs.declared.entry.Entry.{Entry}
use Rattle.jh_history.specs.Lives.{is_on_board}
use Rattle.jh_history.specs.Due.{due, IsQuiet}
use Rattle.jh_run.specs.Ends.{IsFullAndBusy}
use Rattle.jh_run.specs.Origins.{Origin}
use Rattle.jh_board.specs.declared.turn.Turn.{Turn}
use Rattle.jh_board.specs.declared.turn.Turn.TheVariants.{Made, Edited, NotNow, Done}
use Rattle.jh_board.specs.declared.turn.TurnFault.{TurnFault}
use Rattle.jh_board.specs.declared.turn.TurnFault.TheVariants.{Full, NoMemory}
use Rattle.jh_run.specs.declared.running.Running.{Running}

-- the CPU that made the entry, whose it is
abbrev pub whose_entry : Entry → ℕ
whose_entry entry = entry.cpu

-- what no turn of the running board changes
abbrev pub origin_of : Running → Origin
origin_of running = record { image = running.board.image; limit = running.board.limit; form = running.board.form }

-- the CPU is served: it is one of the board's
abbrev pub ServesCpu : Origin → ℕ → Type 0
ServesCpu origin cpu = IsTrue (is_on_board origin.image cpu)

-- the entries of the running board
abbrev pub journal_of : Running → List Entry
journal_of running = running.board.entries

-- at these entries a turn of the CPU may answer so, and leave those; no turn edits tables
abbrev pub IsTurnAnswer : Origin → ℕ → List Entry → List Entry → Result Turn TurnFault → Type 0
IsTurnAnswer origin cpu before after (Ok (Made entry)) = (due origin.image origin.form before cpu ≡ Some entry) × (length before < origin.limit) × (after ≡ before ++ entry ∷ [])
IsTurnAnswer origin cpu before after (Ok (Edited left)) = ⊥
IsTurnAnswer origin cpu before after (Ok (NotNow other)) = (due origin.image origin.form before cpu ≡ None) × IsSome (due origin.image origin.form before other) × (after ≡ before)
IsTurnAnswer origin cpu before after (Ok Done) = IsQuiet origin.image origin.form before × (after ≡ before)
IsTurnAnswer origin cpu before after (Err Full) = IsFullAndBusy origin.image origin.form origin.limit before × (after ≡ before)
IsTurnAnswer origin cpu before after (Err NoMemory) = after ≡ before
