-- What is left of a text behind its first illegal entry.
use Rattle.std.specs.Prelude.{ℕ, List, ◌++◌}
use Rattle.jh_history.specs.declared.entry.Entry.{Entry}
use Rattle.jh_text.specs.declared.fault.JournalFault.{JournalFault}
use Rattle.jh_text.specs.Faults.{IsJournalText, IsFault}
use Rattle.jh_text.specs.Text.{form_of}
use Rattle.jh_text.specs.LinesView.{LinesView}
use Rattle.jh_text.specs.Lines.{IsReadTo}

-- from `old` to `new` the lines of some entries are read
pub record ReadsOn (old new : LinesView) : Type 0 where
  pub between : List Entry
  pub reads : (text : List ℕ) (before : List Entry) → IsReadTo text before old → IsReadTo text (before ++ between) new

-- what is left are the lines of some entries, and with those before them they are a journal's text
pub record EndsJournal (lines : LinesView) : Type 0 where
  pub rest : List Entry
  pub spelled : (text : List ℕ) (before : List Entry) → IsReadTo text before lines → IsJournalText text (form_of text) (before ++ rest)

-- the text of which so much is read has this fault
abbrev pub EndsAtFault : LinesView → JournalFault → Type 0
EndsAtFault lines fault = (text : List ℕ) (before : List Entry) → IsReadTo text before lines → IsFault text fault
