-- What `audit` ends with.
use Rattle.std.specs.Prelude.{◌≡◌, ◌≢◌, ◌<◌, ℕ, ◌+◌, ◌⊎◌, true, false, List, [], ◌∷◌, ◌++◌, length, Some, None, codes, decimal}
use Rattle.jh_script.specs.declared.image.Image.{Image}
use Rattle.jh_history.specs.declared.form.Form.{Form}
use Rattle.jh_history.specs.declared.entry.Entry.{Entry}
use Rattle.jh_text.specs.declared.fault.JournalFault.{JournalFault}
use Rattle.jh_text.specs.declared.fault.JournalFault.TheVariants.{NoMemory}
use Rattle.jh_text.specs.Faults.{IsJournalText, IsFault}
use Rattle.jh_text.specs.FaultText.{journal_fault_text}
use Rattle.jh_text.specs.Text.{entry_text, header_lines}
use Rattle.jh_audit.specs.declared.verdict.Verdict.{Verdict}
use Rattle.jh_audit.specs.declared.verdict.Verdict.TheVariants.{Legal, Illegal}
use Rattle.jh_audit.specs.Judges.{Judges}
use Rattle.jh_image.specs.Files.{Contents}
use Rattle.jh_cli.specs.Reading.{Reply, FileKind, Reads, RefusesOversizeAt}
use Rattle.jh_cli.specs.Boards.{Opens}
use Rattle.jh_cli.specs.declared.status.Status.{Status}
use Rattle.jh_cli.specs.declared.status.Status.TheVariants.{Good, Found}
use Rattle.jh_cli.specs.Limits.{asked_of_a_journal}

-- what the text of a journal spells
pub record SpelledJournal : Type 0 where
  pub form : Form
  pub entries : List Entry

-- the bytes are the text of the journal
pub record IsJournalFile (bytes : List ℕ) (journal : SpelledJournal) : Type 0 where
  pub within : length bytes < asked_of_a_journal
  pub spelled : IsJournalText bytes journal.form journal.entries

-- the bytes are no journal's text, for the fault that these words tell
pub record IsNoJournal (bytes words : List ℕ) : Type 0 where
  pub within : length bytes < asked_of_a_journal
  pub fault : JournalFault
  pub is_of_text : fault ≢ NoMemory
  pub first : IsFault bytes fault
  pub told : words ≡ journal_fault_text fault

-- a journal's file of these bytes is refused by these words: it is too large, or no journal's text
abbrev pub JournalRefusal : List ℕ → List ℕ → Type 0
JournalRefusal bytes words = RefusesOversizeAt asked_of_a_journal bytes words ⊎ IsNoJournal bytes words

-- a journal's file
abbrev pub journal_file : FileKind SpelledJournal
journal_file = record { most = asked_of_a_journal; Refusal = JournalRefusal; Form = IsJournalFile }

-- the line that tells that the entry was due instead of the one in the journal's line of this number
abbrev pub due_line : ℕ → Entry → List ℕ
due_line number entry = codes "illegal line " ++ (decimal number ++ (codes ": due " ++ (entry_text entry ++ 10 ∷ [])))

-- the line that tells that nothing was due in the journal's line of this number
abbrev pub nothing_due_line : ℕ → List ℕ
nothing_due_line number = codes "illegal line " ++ (decimal number ++ (codes ": nothing due" ++ 10 ∷ []))

-- the number of the line in which a journal of the form has the entry of this number, both counted from 1
abbrev pub line_of : Form → ℕ → ℕ
line_of form number = number + header_lines form

-- the line that tells the verdict on a journal of the form
abbrev pub verdict_line : Form → Verdict → List ℕ
verdict_line form (Legal count true) = codes "legal " ++ (decimal count ++ (codes " quiet" ++ 10 ∷ []))
verdict_line form (Legal count false) = codes "legal " ++ (decimal count ++ (codes " unfinished" ++ 10 ∷ []))
verdict_line form (Illegal number (Some entry)) = due_line (line_of form number) entry
verdict_line form (Illegal number None) = nothing_due_line (line_of form number)

-- the status of the verdict: good where the journal is legal, and found where it isn't
abbrev pub verdict_status : Verdict → Status
verdict_status (Legal count quiet) = Good
verdict_status (Illegal number expected) = Found

-- the verdict on the journal is told
pub record IsAudited (image : Image) (journal : SpelledJournal) (reply : Reply) : Type 0 where
  pub verdict : Verdict
  pub judged : Judges image journal.form journal.entries verdict
  pub told : reply ≡ record { status = verdict_status verdict; text = verdict_line journal.form verdict }

-- what an audit of the journal by the image ends with
abbrev pub AuditsBy : Contents → List ℕ → Image → Reply → Type 0
AuditsBy contents journal image = Reads contents journal journal_file (IsAudited image)

-- what an audit of the journal by the board ends with: the board's files are read, then the journal's, and the first
-- that stops the call ends it
abbrev pub Audits : Contents → List ℕ → List ℕ → Reply → Type 0
Audits contents board journal = Opens contents board (AuditsBy contents journal)
