-- What an audit finds of a journal.
use Rattle.std.specs.Prelude.{◌≡◌, ◌≢◌, ℕ, ◌+◌, ◌↔◌, List, ◌∷◌, ◌++◌, length, Option, Some, IsTrue}
use Rattle.jh_script.specs.declared.image.Image.{Image}
use Rattle.jh_history.specs.declared.entry.Entry.{Entry}
use Rattle.jh_history.specs.declared.form.Form.{Form}
use Rattle.jh_history.specs.Due.{due, IsLegal, IsQuiet}
use Rattle.jh_text.specs.Faults.{IsJournalText}
use Rattle.jh_text.specs.Text.{form_of}
use Rattle.jh_audit.specs.declared.verdict.Verdict.{Verdict}
use Rattle.jh_audit.specs.declared.verdict.Verdict.TheVariants.{Legal, Illegal}

-- in a journal of the form, the entry of this line, counted from 1 and without the header, is the first that isn't the
-- one due to its CPU, and `expected` is the entry that was due, if one was
pub record IsFirstIllegal (image : Image) (form : Form) (entries : List Entry) (line : ℕ) (expected : Option Entry) : Type 0 where
  pub before : List Entry
  pub entry : Entry
  pub rest : List Entry
  pub split : entries ≡ before ++ entry ∷ rest
  pub counted : line ≡ length before + 1
  pub legal : IsLegal image form before
  pub was_due : expected ≡ due image form before entry.cpu
  pub differs : expected ≢ Some entry

-- the verdict on the journal of the form: it is legal, with how many entries it has and whether it is quiet; or it isn't,
-- with its first illegal entry
abbrev pub Judges : Image → Form → List Entry → Verdict → Type 0
Judges image form entries (Legal count quiet) = IsLegal image form entries × (count ≡ length entries) × (IsTrue quiet ↔ IsQuiet image form entries)
Judges image form entries (Illegal line expected) = IsFirstIllegal image form entries line expected

-- the text is that of a journal of the form that it tells, and the verdict is that on it
pub record JudgesText (image : Image) (text : List ℕ) (verdict : Verdict) : Type 0 where
  pub entries : List Entry
  pub spelled : IsJournalText text (form_of text) entries
  pub judged : Judges image (form_of text) entries verdict
