-- What a turn of a CPU answers.
use Rattle.std.specs.Prelude.{◌≡◌, ℕ, ◌<◌, [], ◌∷◌, ◌++◌, length, Option, Some, None, IsSome}
use Rattle.jh_history.specs.declared.entry.Entry.{Entry}
use Rattle.jh_history.specs.Due.{due, IsQuiet}
use Rattle.jh_board.specs.BoardView.{BoardView}
use Rattle.jh_board.specs.declared.turn.Turn.{Turn}
use Rattle.jh_board.specs.declared.turn.Turn.TheVariants.{Made, Edited, NotNow, Done}
use Rattle.jh_board.specs.declared.turn.TurnFault.{TurnFault}
use Rattle.jh_board.specs.declared.turn.TurnFault.TheVariants.{Full, NoMemory}

-- what is made for the CPU from `old` is the entry that is due to it, and leaves `new`; or nothing is due, and nothing
-- changes
abbrev pub MakesDue : BoardView → ℕ → Option Entry → BoardView → Type 0
MakesDue old cpu None new = (due old.image old.form old.entries cpu ≡ None) × (new ≡ old)
MakesDue old cpu (Some entry) new = (due old.image old.form old.entries cpu ≡ Some entry) × (length old.entries < old.limit) × (new ≡ record old { entries = old.entries ++ entry ∷ [] })

-- from old, a turn of the CPU may answer this and leave new; no turn edits tables
abbrev pub Turns : BoardView → ℕ → Turn → BoardView → Type 0
Turns old cpu (Made entry) new = MakesDue old cpu (Some entry) new
Turns old cpu (Edited left) new = ⊥
Turns old cpu (NotNow other) new = (due old.image old.form old.entries cpu ≡ None) × IsSome (due old.image old.form old.entries other) × (new ≡ old)
Turns old cpu Done new = IsQuiet old.image old.form old.entries × (new ≡ old)

-- from old, a turn of the CPU may be refused by this and leave new
abbrev pub RefusesTurn : BoardView → ℕ → TurnFault → BoardView → Type 0
RefusesTurn old cpu Full new = IsSome (due old.image old.form old.entries cpu) × (length old.entries ≡ old.limit) × (new ≡ old)
RefusesTurn old cpu NoMemory new = new ≡ old
