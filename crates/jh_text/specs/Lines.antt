-- How a text is read line by line.
use Rattle.std.specs.Prelude.{◌≡◌, ◌≢◌, ℕ, ◌+◌, ◌<◌, ◌≤◌, List, [], ◌++◌, length, Option, Some, None}
use Rattle.std.specs.List.{AllByRecursion}
use Rattle.jh_history.specs.declared.entry.Entry.{Entry}
use Rattle.jh_text.specs.declared.fault.JournalFault.{JournalFault}
use Rattle.jh_text.specs.declared.fault.JournalFault.TheVariants.{Line, TooLong, NoMemory}
use Rattle.jh_text.specs.Ranges.{IsReadable}
use Rattle.jh_text.specs.Text.{line, lines_text, header_lines, form_of, body_of}
use Rattle.jh_text.specs.Faults.{max_entries, BeginsWithLine, BeginsWithNoLine}
use Rattle.jh_text.specs.LinesView.{LinesView}

-- from `old` the next line is that of this entry and not beyond the last that a journal may have, and `new` has passed
-- it; or nothing is left, and nothing changes
abbrev pub PassesLine : LinesView → Option Entry → LinesView → Type 0
PassesLine old (Some entry) new = IsReadable entry × (old.rest ≡ line entry ++ new.rest) × (old.count < max_entries) × (new.count ≡ old.count + 1) × (new.form ≡ old.form)
PassesLine old None new = (old.rest ≡ []) × (new ≡ old)

-- from `old` the next line is not that of an entry, and this is its number; or it is one more than a journal may have;
-- and nothing changes
abbrev pub RefusesLine : LinesView → JournalFault → LinesView → Type 0
RefusesLine old (Line number) new = (old.rest ≢ []) × BeginsWithNoLine old.rest × (number ≡ old.count + 1 + header_lines old.form) × (new ≡ old)
RefusesLine old TooLong new = BeginsWithLine old.rest × (old.count ≡ max_entries) × (new ≡ old)
RefusesLine old NoMemory new = ⊥

-- the lines of these entries, no more than a journal may have, are read of what stands behind the text's header, and
-- behind them the rest is left
pub record IsReadTo (text : List ℕ) (entries : List Entry) (lines : LinesView) : Type 0 where
  pub form : lines.form ≡ form_of text
  pub readable : AllByRecursion IsReadable entries
  pub within : length entries ≤ max_entries
  pub counted : lines.count ≡ length entries
  pub whole : body_of text ≡ lines_text entries ++ lines.rest
