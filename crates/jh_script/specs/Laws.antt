-- What programs and schedules are, and where their first fault is, in the words of lines and items.
use Rattle.std.specs.Prelude.{◌≡◌, ℕ, ◌+◌, ◌-◌, ◌^◌, ◌<◌, ◌≤◌, min, Option, Some, None, List, ◌∷◌, ◌++◌, length, map}
use Rattle.std.specs.List.{AllByRecursion}
use Rattle.jh_script.specs.declared.op.Op.{Op}
use Rattle.jh_script.specs.declared.line.Line.{Line}
use Rattle.jh_script.specs.declared.line.Line.TheVariants.{Blank, Operation, Syntax, Width}
use Rattle.jh_script.specs.Programs.{lines_of, ops_of_lines}
use Rattle.jh_script.specs.Schedules.{items_of}
use Rattle.jh_script.specs.Limits.{most_ops, most_items}

-- the line has no fault
abbrev pub IsGood : Line → Type 0
IsGood Blank = Unit {0}
IsGood (Operation op) = Unit {0}
IsGood Syntax = ⊥
IsGood Width = ⊥

-- no line of the text has a fault, and these are its operations, not too many
pub record IsProgram (text : List ℕ) (ops : List Op) : Type 0 where
  pub good : AllByRecursion IsGood (lines_of text)
  pub few : length ops ≤ most_ops
  pub are : ops ≡ ops_of_lines (lines_of text)

-- the line with this number is the first that has a fault, and those before it have not too many operations; lines
-- count from 1, and numbers end at 2 ^ 32 - 1
pub record IsFirstBad (text : List ℕ) (bad : Line) (number : ℕ) : Type 0 where
  pub before : List Line
  pub rest : List Line
  pub lines : lines_of text ≡ before ++ bad ∷ rest
  pub good : AllByRecursion IsGood before
  pub few : length (ops_of_lines before) ≤ most_ops
  pub number_is : number ≡ min (length before + 1) (2 ^ 32 - 1)

-- behind lines that have as many operations as a program may, and no fault, there is one more operation
pub record HasTooMany (text : List ℕ) : Type 0 where
  pub before : List Line
  pub op : Op
  pub rest : List Line
  pub lines : lines_of text ≡ before ++ Operation op ∷ rest
  pub good : AllByRecursion IsGood before
  pub full : length (ops_of_lines before) ≡ most_ops

-- the text has the lines of the other, and among them one more, which is blank or a comment
pub record HasOneMoreBlank (text other : List ℕ) : Type 0 where
  pub before : List Line
  pub after : List Line
  pub lines : lines_of text ≡ before ++ Blank ∷ after
  pub others : lines_of other ≡ before ++ after

-- each item of the text is a CPU of the board, and these are they, not too many
pub record IsSchedule (cpus : ℕ) (text : List ℕ) (items : List ℕ) : Type 0 where
  pub are : items_of cpus text ≡ map Some items
  pub few : length items ≤ most_items

-- the item with this number, from 1, is the first that is no CPU of the board
pub record IsFirstRefused (cpus : ℕ) (text : List ℕ) (number : ℕ) : Type 0 where
  pub before : List ℕ
  pub rest : List (Option ℕ)
  pub items : items_of cpus text ≡ map Some before ++ None ∷ rest
  pub few : length before < most_items
  pub number_is : number ≡ length before + 1

-- behind as many CPUs as a schedule may have there is one more item
pub record HasTooManyItems (cpus : ℕ) (text : List ℕ) : Type 0 where
  pub before : List ℕ
  pub item : Option ℕ
  pub rest : List (Option ℕ)
  pub items : items_of cpus text ≡ map Some before ++ item ∷ rest
  pub full : length before ≡ most_items
