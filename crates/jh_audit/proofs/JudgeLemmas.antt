-- Where an audit ends.
use Rattle.std.proofs.Common.{◌≡◌, ◌≢◌, ℕ, List, [], ◌∷◌, ◌++◌, Option, Some, length, sym, ◌∙◌, arith, append_assoc, length-append}
use Rattle.jh_script.specs.declared.image.Image.{Image}
use Rattle.jh_history.specs.declared.entry.Entry.{Entry}
use Rattle.jh_history.specs.declared.form.Form.{Form}
use Rattle.jh_history.specs.Due.{due, IsLegal}
use Rattle.jh_text.specs.Text.{form_of}
use Rattle.jh_text.specs.LinesView.{LinesView}
use Rattle.jh_text.specs.Lines.{IsReadTo}
use Rattle.jh_audit.specs.declared.verdict.Verdict.TheVariants.{Illegal}
use Rattle.jh_audit.specs.Judges.{IsFirstIllegal, JudgesText}
use Rattle.jh_audit.specs.Private.Rest.{EndsJournal}

-- the entry in the line that was read last is the first that isn't due
is_first : (image : Image) (form : Form) (before : List Entry) (entry : Entry) (rest : List Entry) (line : ℕ) (expected : Option Entry)
    → line ≡ length (before ++ entry ∷ []) → IsLegal image form before → due image form before entry.cpu ≡ expected → expected ≢ Some entry
    → IsFirstIllegal image form ((before ++ entry ∷ []) ++ rest) line expected
is_first image form before entry rest line expected counted legal was_due differs = record {
  before = before;
  entry = entry;
  rest = rest;
  split = append_assoc before (entry ∷ []) rest;
  counted = omega (arith, counted, length-append before (entry ∷ []));
  legal = legal;
  was_due = sym was_due;
  differs = differs;
}

-- the text is that of a journal whose entry in this line is the first that isn't due
pub is_illegal : (image : Image) (text : List ℕ) (before : List Entry) (entry : Entry) (lines : LinesView) (line : ℕ) (expected : Option Entry)
    → IsReadTo text (before ++ entry ∷ []) lines → line ≡ lines.count → EndsJournal lines
    → IsLegal image (form_of text) before → due image (form_of text) before entry.cpu ≡ expected → expected ≢ Some entry
    → JudgesText image text (Illegal line expected)
is_illegal image text before entry lines line expected read counted ends legal was_due differs = record {
  entries = (before ++ entry ∷ []) ++ ends.rest;
  spelled = ends.spelled text (before ++ entry ∷ []) read;
  judged = is_first image (form_of text) before entry ends.rest line expected (counted ∙ read.counted) legal was_due differs;
}
