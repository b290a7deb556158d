-- What ports have seen once they are driven no more.
use Rattle.std.specs.Prelude.{◌≡◌, ℕ, List, [], ◌∷◌, ◌++◌, Contains, Option, Some, None, Result, Ok, ⊤}
use Rattle.std.specs.List.{flat_map}
use mathlib.Core.List.{IsPrefix}
use Rattle.jh_history.specs.declared.entry.Entry.{Entry}
use Rattle.jh_history.specs.Due.{IsQuiet}
use Rattle.jh_board.specs.declared.turn.Turn.{Turn}
use Rattle.jh_board.specs.declared.turn.Turn.TheVariants.{Made}
use Rattle.jh_board.specs.declared.turn.TurnFault.{TurnFault}
use Rattle.jh_board.specs.declared.turn.TurnFault.TheVariants.{Full, NoMemory}
use Rattle.jh_turn.specs.declared.turner.Turner.{Ghosts}
use Rattle.jh_turn.specs.declared.shared.Port.{Port}
use Rattle.jh_turn.specs.Histories.{entries_of, IsTurn}
use Rattle.jh_turn.specs.Ports.{port_caller, seen_by}
use Rattle.jh_run.specs.Ends.{IsFullAndBusy}
use Rattle.jh_run.specs.Origins.{Origin}
use Rattle.jh_run.specs.Running.{whose_entry, IsTurnAnswer}

-- what the entries tell by what a turn was refused for: where none was refused, they are quiet; where one was for the
-- limit, they are at it and not quiet; for want of memory nothing
abbrev pub ExplainsEnd : Origin → Option TurnFault → List Entry → Type 0
ExplainsEnd origin None entries = IsQuiet origin.image origin.form entries
ExplainsEnd origin (Some Full) entries = IsFullAndBusy origin.image origin.form origin.limit entries
ExplainsEnd origin (Some NoMemory) entries = Unit {0}

-- the entry that a turn with this answer made, if it made one
abbrev pub made_by : Result Turn TurnFault → List Entry
made_by (Ok (Made entry)) = entry ∷ []
made_by _ = []

-- turns of one caller with these answers, one after another: what its port had seen before them, and has seen behind them
pub data AreTurns (origin : Origin) (caller : ℕ) : List Entry → List (Result Turn TurnFault) → List Entry → Type 0 where
  no_turn : (seen : List Entry) → AreTurns origin caller seen [] seen
  one_more_turn : (seen between now : List Entry) (answers : List (Result Turn TurnFault)) (answer : Result Turn TurnFault) → AreTurns origin caller seen answers between
      → IsTurn whose_entry (IsTurnAnswer origin) (record { caller = caller; seen = between; answer = answer; now = now }) → AreTurns origin caller seen (answers ++ answer ∷ []) now

module _ {T A : Type 0} {G : Ghosts T Entry A} where
  -- the port took turns between these two, and nothing else came to it: what it had seen is a front of what it has seen
  -- then, where of its caller's own entries just those are new that its turns made, in their order
  pub record TookTurns (origin : Origin) (before after : Port T Entry A G) : Type 0 where
    pub caller : port_caller after ≡ port_caller before
    pub answers : List (Result Turn TurnFault)
    pub turns : AreTurns origin (port_caller before) (seen_by before) answers (seen_by after)
    pub front : IsPrefix (seen_by before) (seen_by after)
    pub own : entries_of whose_entry (port_caller before) (seen_by after) ≡ entries_of whose_entry (port_caller before) (seen_by before) ++ flat_map made_by answers

  -- each of the ports took turns
  abbrev pub AllTookTurns : Origin → List (Port T Entry A G) → List (Port T Entry A G) → Type 0
  AllTookTurns origin [] [] = ⊤
  AllTookTurns origin (before ∷ befores) (after ∷ afters) = TookTurns origin before after × AllTookTurns origin befores afters
  AllTookTurns origin _ _ = ⊥

  -- what the port has seen tells why ports are driven no more
  abbrev pub Shows : Origin → Option TurnFault → Port T Entry A G → Type 0
  Shows origin refused port = ExplainsEnd origin refused (seen_by port)

  -- what one of the ports has seen tells why ports are driven no more
  pub record SomeShows (origin : Origin) (refused : Option TurnFault) (ports : List (Port T Entry A G)) : Type 0 where
    pub port : Port T Entry A G
    pub one : Contains ports port
    pub shows : Shows origin refused port
