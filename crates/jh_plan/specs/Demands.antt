-- What the text of demands tells.
use Rattle.std.specs.Prelude.{◌≡◌, ◌&&◌, ◌<◌, ◌≤◌, ◌-◌, ◌^◌, ◌%◌, ℕ, Bool, true, false, not, ◌==◌, nat_lt, nat_le, nat_eq, if◌then◌else◌, Option, Some, None, Result, List, [], ◌∷◌, length, map, codes}
use Rattle.std.specs.Option.{option_map}
use Rattle.std.specs.Str.{bytes_eq}
use Rattle.std.specs.Str.Lines.{lines}
use Rattle.std.specs.List.{list_all, starts_with}
use Rattle.jh_num.specs.declared.address.TheConstants.{PAGE_SIZE}
use Rattle.jh_script.specs.Numbers.{number_written}
use Rattle.jh_script.specs.Operations.{◌>>=◌, is_ascii}
use Rattle.jh_script.specs.Programs.{line_number, unless}
use Rattle.jh_script.specs.Words.{words, line_gaps}
use Rattle.jh_plan.specs.declared.demand.Demand.{Demand}
use Rattle.jh_plan.specs.declared.line.Figures.{Figures}
use Rattle.jh_plan.specs.declared.line.Line.{Line}
use Rattle.jh_plan.specs.declared.line.Line.TheVariants.{Blank, Wanted, Syntax}
use Rattle.jh_plan.specs.declared.fault.DemandsFault.{DemandsFault}
use Rattle.jh_plan.specs.declared.fault.DemandsFault.TheVariants as faults
use Rattle.jh_plan.specs.Limits.{most_demands}

-- the byte may stand in a name: it is printable, and neither a space nor a quote nor a backslash
abbrev pub is_name_byte : ℕ → Bool
is_name_byte byte = nat_le 0x21 byte && nat_le byte 0x7e && not (byte == 34) && not (byte == 92)

-- the bytes may be a name: 1 to 31 of those that may stand in one
abbrev pub is_name : List ℕ → Bool
is_name name = nat_lt 0 (length name) && nat_le (length name) 31 && list_all is_name_byte name

-- the demand is within its limits
pub record IsDemand (demand : Demand) : Type 0 where
  pub name : is_name demand.name ≡ true
  pub some_cpus : 1 ≤ demand.cpus
  pub few_cpus : demand.cpus ≤ 15
  pub some_size : 0 < demand.size
  pub whole : demand.size % PAGE_SIZE ≡ 0

-- the numbers and the mark, where each number is within its limits
unfoldable pub figures_by : ℕ → ℕ → ℕ → Bool → Option Figures
figures_by id cpus size loadable =
    if nat_lt id (2 ^ 32) && (nat_lt 0 cpus && nat_le cpus 15) && (nat_lt 0 size && (size % PAGE_SIZE == 0))
    then Some (record { id = id; cpus = cpus; size = size; loadable = loadable }) else None

-- what stands behind the size: nothing, or the word `loadable`
unfoldable pub mark_of : List (List ℕ) → Option Bool
mark_of [] = Some false
mark_of (word ∷ []) = if bytes_eq word (codes "loadable") then Some true else None
mark_of (word ∷ other ∷ more) = None

-- the id, the number of CPUs, the size and the mark that the words behind a name tell
unfoldable pub figures_of : List (List ℕ) → Option Figures
figures_of [] = None
figures_of (id ∷ []) = None
figures_of (id ∷ cpus ∷ []) = None
figures_of (id ∷ cpus ∷ size ∷ more) = do
  loadable ← mark_of more
  i ← number_written id
  c ← number_written cpus
  s ← number_written size
  figures_by i c s loadable

-- the demand of this name
abbrev pub named : List ℕ → Figures → Demand
named name figures = record { name = name; id = figures.id; cpus = figures.cpus; size = figures.size; loadable = figures.loadable }

-- the demand that the words behind `cell` tell
unfoldable pub demand_of : List (List ℕ) → Option Demand
demand_of [] = None
demand_of (name ∷ behind) = if is_name name then option_map (named name) (figures_of behind) else None

-- what a line tells that is of this demand, or of none
unfoldable pub line_of_demand : Option Demand → Line
line_of_demand None = Syntax
line_of_demand (Some demand) = Wanted demand

-- what a line of these words tells; a first word that begins with `#` begins a comment
unfoldable pub line_of_words : List (List ℕ) → Line
line_of_words [] = Blank
line_of_words (first ∷ behind) =
    if starts_with nat_eq first (codes "#") then Blank
    else (if bytes_eq first (codes "cell") then line_of_demand (demand_of behind) else Syntax)

-- what a line of these bytes tells: a byte of 128 or more is a fault, in a comment too
unfoldable pub line_of : List ℕ → Line
line_of line = if is_ascii line then line_of_words (words line_gaps line) else Syntax

-- what each line of the text tells, in order
unfoldable pub lines_of : List ℕ → List Line
lines_of text = map line_of (lines text)

-- the first fault of lines that stand behind others, where so many demands more are allowed
unfoldable pub first_fault : ℕ → ℕ → List Line → Option DemandsFault
first_fault before room [] = None
first_fault before room (Blank ∷ more) = first_fault (line_number before) room more
first_fault before room (Wanted demand ∷ more) = if room == 0 then Some faults.TooMany else first_fault (line_number before) (room - 1) more
first_fault before room (Syntax ∷ more) = Some (faults.Line (line_number before))

-- the demands of the lines, in order
unfoldable pub demands_of_lines : List Line → List Demand
demands_of_lines [] = []
demands_of_lines (Blank ∷ more) = demands_of_lines more
demands_of_lines (Wanted demand ∷ more) = demand ∷ demands_of_lines more
demands_of_lines (Syntax ∷ more) = demands_of_lines more

-- the demands of the text, or its first fault
unfoldable pub demands_of : List ℕ → Result (List Demand) DemandsFault
demands_of text = unless (first_fault 0 most_demands (lines_of text)) (demands_of_lines (lines_of text))
