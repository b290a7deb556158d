-- The words of the command line.
use Rattle.std.specs.Prelude.{ℕ, Bool, true, not, ◌==◌, nat_le, if◌then◌else◌, List, [], ◌∷◌, length, map, string_bytes, nat_eq, Option, Some, None, ⊤, ◌≤◌, codes}
use Rattle.std.specs.List.{list_all}
use Rattle.std.specs.Cmp.Lexicographic.{pointwise}
use Rattle.jh_cli.specs.declared.command.Command.{Command}
use Rattle.jh_cli.specs.declared.command.Command.TheVariants.{Check, Pack, Play, Run, Map, Audit, Soak, Plan, Pins, Tables}

-- a command with its operands: the names of its files, or the word that tells how many rounds are run
pub data Request : Type 0 where
  CheckOf : List ℕ → List (List ℕ) → Request
  PackOf : List ℕ → Request
  PlayOf : List ℕ → List ℕ → Request
  RunOf : List ℕ → Request
  MapOf : List ℕ → List ℕ → Request
  AuditOf : List ℕ → List ℕ → Request
  SoakOf : List ℕ → Request
  PlanOf : List ℕ → List ℕ → Request
  PinsOf : List ℕ → List ℕ → Request
  TablesOf : List ℕ → List ℕ → Request

-- the word is an operand: it doesn't begin with `-`
abbrev pub is_operand : List ℕ → Bool
is_operand [] = true
is_operand (byte ∷ bytes) = not (byte == 45)

-- the two words are the same, letter for letter
abbrev pub is_word : List ℕ → List ℕ → Bool
is_word word other = pointwise nat_eq word other

-- `check` has a system and 0 to 15 cells
abbrev pub check_command : List (List ℕ) → Option Request
check_command [] = None
check_command (system ∷ cells) = if nat_le (length cells) 15 then Some (CheckOf system cells) else None

-- a command that has one operand
abbrev pub of_one : (List ℕ → Request) → List (List ℕ) → Option Request
of_one request [] = None
of_one request (operand ∷ []) = Some (request operand)
of_one request (operand ∷ other ∷ more) = None

-- a command that has two operands
abbrev pub of_two : (List ℕ → List ℕ → Request) → List (List ℕ) → Option Request
of_two request [] = None
of_two request (first ∷ []) = None
of_two request (first ∷ second ∷ []) = Some (request first second)
of_two request (first ∷ second ∷ other ∷ more) = None

-- the command of this word with these operands: `pack` has a SPEC; `play` a board and a schedule; `run` a board; `map`
-- a board and a schedule; `audit` a board and a journal; `soak` a number of rounds; `plan` a system and demands; `pins` and `tables` a board and a schedule;
-- `tables` is none
abbrev pub command_for : List ℕ → List (List ℕ) → Option Request
command_for word operands =
    if is_word word (codes "check") then check_command operands
    else (if is_word word (codes "pack") then of_one PackOf operands
    else (if is_word word (codes "play") then of_two PlayOf operands
    else (if is_word word (codes "run") then of_one RunOf operands
    else (if is_word word (codes "map") then of_two MapOf operands
    else (if is_word word (codes "audit") then of_two AuditOf operands
    else (if is_word word (codes "soak") then of_one SoakOf operands
    else (if is_word word (codes "plan") then of_two PlanOf operands
    else (if is_word word (codes "pins") then of_two PinsOf operands
    else (if is_word word (codes "tables") then of_two TablesOf operands
    else None)))))))))

-- the command of the words: the program's name, the command's word letter for letter, and its operands
abbrev pub command_of : List (List ℕ) → Option Request
command_of [] = None
command_of (name ∷ []) = None
command_of (name ∷ word ∷ operands) = if list_all is_operand operands then command_for word operands else None

-- the request of the command that was read
abbrev pub request_by : Command → Request
request_by (Check system cells) = CheckOf system.now (map string_bytes cells.now)
request_by (Pack spec) = PackOf spec.now
request_by (Play board schedule) = PlayOf board.now schedule.now
request_by (Run board) = RunOf board.now
request_by (Map board schedule) = MapOf board.now schedule.now
request_by (Audit board journal) = AuditOf board.now journal.now
request_by (Soak rounds) = SoakOf rounds.now
request_by (Plan system demands) = PlanOf system.now demands.now
request_by (Pins board schedule) = PinsOf board.now schedule.now
request_by (Tables board schedule) = TablesOf board.now schedule.now

-- the words have no command, or one that starts no thread and waits for none
abbrev pub IsSerial : Option Request → Type 0
IsSerial (Some (RunOf board)) = ⊥
IsSerial (Some (SoakOf rounds)) = ⊥
IsSerial _ = ⊤

-- the command, where it is a check, has at most 15 cells
abbrev pub HasFewCells : Command → Type 0
HasFewCells (Check system cells) = length cells.now ≤ 15
HasFewCells _ = ⊤
