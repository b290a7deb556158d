-- What the reader answers to a text.
use Rattle.std.specs.Prelude.{◌≡◌, ◌≢◌, ◌⊎◌, ℕ, ◌+◌, ◌≤◌, List, [], ◌++◌, length}
use Rattle.std.specs.List.{AllByRecursion}
use Rattle.jh_history.specs.declared.entry.Entry.{Entry}
use Rattle.jh_history.specs.declared.form.Form.{Form}
use Rattle.jh_text.specs.declared.fault.JournalFault.{JournalFault}
use Rattle.jh_text.specs.declared.fault.JournalFault.TheVariants.{Line, TooLong, NoMemory}
use Rattle.jh_text.specs.Ranges.{IsReadable}
use Rattle.jh_text.specs.Text.{line, lines_text, header_lines, journal_text, form_of, body_of}

-- the most entries of a journal
abbrev pub max_entries : ℕ
max_entries = 262144

-- the text is that of a journal of the form with these entries
pub record IsJournalText (text : List ℕ) (form : Form) (entries : List Entry) : Type 0 where
  pub form_is : form ≡ form_of text
  pub readable : AllByRecursion IsReadable entries
  pub within : length entries ≤ max_entries
  pub whole : text ≡ journal_text form entries

-- the text begins with the line of an entry, and then comes the rest
pub record BeginsWithLine (text : List ℕ) : Type 0 where
  pub entry : Entry
  pub rest : List ℕ
  pub readable : IsReadable entry
  pub whole : text ≡ line entry ++ rest

-- the text begins with the line of no entry
abbrev pub BeginsWithNoLine : List ℕ → Type 0
BeginsWithNoLine text = (entry : Entry) (rest : List ℕ) → IsReadable entry → text ≢ line entry ++ rest

-- the lines before the one with this number, counted from 1 and with the header, are lines of entries behind the header,
-- no more than a journal may have; something stands behind them, and it begins with the line of no entry: so what stands
-- behind the last line feed of a text is a bad line
pub record IsFirstBadLine (text : List ℕ) (number : ℕ) : Type 0 where
  pub before : List Entry
  pub rest : List ℕ
  pub readable : AllByRecursion IsReadable before
  pub within : length before ≤ max_entries
  pub number_is : number ≡ length before + 1 + header_lines (form_of text)
  pub whole : body_of text ≡ lines_text before ++ rest
  pub more : rest ≢ []
  pub bad : BeginsWithNoLine rest

-- the first lines behind the header, one more than a journal may have, are lines of entries
pub record IsTooLong (text : List ℕ) : Type 0 where
  pub first : List Entry
  pub rest : List ℕ
  pub readable : AllByRecursion IsReadable first
  pub long : length first ≡ max_entries + 1
  pub whole : body_of text ≡ lines_text first ++ rest

-- the text is a journal's, or it has a first bad line, or it is too long
abbrev pub HasAnswer : List ℕ → Type 0
HasAnswer text = ((entries : List Entry) × IsJournalText text (form_of text) entries) ⊎ (((number : ℕ) × IsFirstBadLine text number) ⊎ IsTooLong text)

-- the fault is one that the text has; want of memory, which is no fault of a text, may come at any
abbrev pub IsFault : List ℕ → JournalFault → Type 0
IsFault text (Line number) = IsFirstBadLine text number
IsFault text TooLong = IsTooLong text
IsFault text NoMemory = Unit {0}
