-- What a run of lines is, behind a text's header or without one: a journal's, with a bad line, or too long.
use Rattle.std.proofs.Common.{◌≡◌, ◌≢◌, ℕ, ◌+◌, ◌≤◌, List, [], ◌++◌, length, ◌⊎◌}
use Rattle.std.specs.List.{AllByRecursion}
use Rattle.jh_history.specs.declared.entry.Entry.{Entry}
use Rattle.jh_text.specs.Ranges.{IsReadable}
use Rattle.jh_text.specs.Text.{lines_text}
use Rattle.jh_text.specs.Faults.{max_entries, BeginsWithNoLine}

-- the lines are those of a journal with these entries
pub record IsBody (text : List ℕ) (entries : List Entry) : Type 0 where
  pub readable : AllByRecursion IsReadable entries
  pub within : length entries ≤ max_entries
  pub whole : text ≡ lines_text entries

-- the first bad line is that of this number, counted from 1
pub record IsBadBody (text : List ℕ) (number : ℕ) : Type 0 where
  pub before : List Entry
  pub rest : List ℕ
  pub readable : AllByRecursion IsReadable before
  pub within : length before ≤ max_entries
  pub number_is : number ≡ length before + 1
  pub whole : text ≡ lines_text before ++ rest
  pub more : rest ≢ []
  pub bad : BeginsWithNoLine rest

-- there is one line more than a journal may have
pub record IsLongBody (text : List ℕ) : Type 0 where
  pub first : List Entry
  pub rest : List ℕ
  pub readable : AllByRecursion IsReadable first
  pub long : length first ≡ max_entries + 1
  pub whole : text ≡ lines_text first ++ rest

-- one of the three
abbrev pub HasBodyAnswer : List ℕ → Type 0
HasBodyAnswer text = ((entries : List Entry) × IsBody text entries) ⊎ (((number : ℕ) × IsBadBody text number) ⊎ IsLongBody text)
