-- A text has one answer.
use Rattle.std.proofs.Common.{◌≡◌, ◌≢◌, ℕ, List, Result, Ok, Err, refl, ap, sym, subst}
use Rattle.std.specs.Result.{IfOk, IfErr, IsOkAnd}
use Rattle.jh_script.specs.declared.image.Image.{Image}
use Rattle.jh_history.specs.declared.entry.Entry.{Entry}
use Rattle.jh_history.specs.declared.form.Form.{Form}
use Rattle.jh_text.specs.declared.fault.JournalFault.{JournalFault}
use Rattle.jh_text.specs.declared.fault.JournalFault.TheVariants.{Line, TooLong, NoMemory}
use Rattle.jh_text.specs.Faults.{IsJournalText, IsFirstBadLine, IsTooLong, IsFault}
use Rattle.jh_text.specs.Text.{form_of}
use Rattle.jh_text.proofs.Public.{OneJournal, NoBadLine, NotLong, NotBoth, OneLine}
use Rattle.jh_audit.specs.declared.verdict.Verdict.{Verdict}
use Rattle.jh_audit.specs.Judges.{Judges, JudgesText}

-- of a journal's text, an answer that is right, and isn't want of memory, judges that journal's entries
pub only_verdict : OneJournal → NoBadLine → NotLong → (image : Image) (text : List ℕ) (r : Result Verdict JournalFault) → IfOk r (JudgesText image text) → IfErr r (IsFault text) → r ≢ Err NoMemory
    → (form : Form) (entries : List Entry) → IsJournalText text form entries → IsOkAnd r (Judges image form entries)
only_verdict one no_bad not_long image text (Ok verdict) ok err room form entries j =
    let P : Form → Type 0 = λ k. Judges image k entries verdict in
    let Q : List Entry → Type 0 = λ es. Judges image (form_of text) es verdict in
    subst P (sym j.form_is) (subst Q (one text (form_of text) form ok.entries entries ok.spelled j) ok.judged)
only_verdict one no_bad not_long image text (Err (Line number)) ok err room form entries j = absurd (no_bad text form entries number j err)
only_verdict one no_bad not_long image text (Err TooLong) ok err room form entries j = absurd (not_long text form entries j err)
only_verdict one no_bad not_long image text (Err NoMemory) ok err room form entries j = absurd (room refl)

-- of a text with a first bad line such an answer tells that line
pub only_line : NoBadLine → NotBoth → OneLine → (image : Image) (text : List ℕ) (r : Result Verdict JournalFault) → IfOk r (JudgesText image text) → IfErr r (IsFault text) → r ≢ Err NoMemory
    → (number : ℕ) → IsFirstBadLine text number → r ≡ Err (Line number)
only_line no_bad not_both one_line image text (Ok verdict) ok err room number b = absurd (no_bad text (form_of text) ok.entries number ok.spelled b)
only_line no_bad not_both one_line image text (Err (Line other)) ok err room number b = ap (λ n. Err (Line n)) (one_line text other number err b)
only_line no_bad not_both one_line image text (Err TooLong) ok err room number b = absurd (not_both text number b err)
only_line no_bad not_both one_line image text (Err NoMemory) ok err room number b = absurd (room refl)

-- of a text that is too long such an answer tells that it is
pub only_too_long : NotLong → NotBoth → (image : Image) (text : List ℕ) (r : Result Verdict JournalFault) → IfOk r (JudgesText image text) → IfErr r (IsFault text) → r ≢ Err NoMemory
    → IsTooLong text → r ≡ Err TooLong
only_too_long not_long not_both image text (Ok verdict) ok err room t = absurd (not_long text (form_of text) ok.entries ok.spelled t)
only_too_long not_long not_both image text (Err (Line other)) ok err room t = absurd (not_both text other err t)
only_too_long not_long not_both image text (Err TooLong) ok err room t = refl
only_too_long not_long not_both image text (Err NoMemory) ok err room t = absurd (room refl)

-- a line that is told, where faults are told rightly, is the text's first bad line
pub line_is : (text : List ℕ) (r : Result Verdict JournalFault) → IfErr r (IsFault text) → (number : ℕ) → r ≡ Err (Line number) → IsFirstBadLine text number
line_is text r err number e = let P : Result Verdict JournalFault → Type 0 = λ x. IfErr x (IsFault text) in subst P e err

-- a text that is told to be too long, where faults are told rightly, is too long
pub too_long_is : (text : List ℕ) (r : Result Verdict JournalFault) → IfErr r (IsFault text) → r ≡ Err TooLong → IsTooLong text
too_long_is text r err e = let P : Result Verdict JournalFault → Type 0 = λ x. IfErr x (IsFault text) in subst P e err
