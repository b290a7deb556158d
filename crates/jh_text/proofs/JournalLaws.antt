-- What the laws of journals' texts say of all texts, as premises of the lemmas of crates above.
use Rattle.std.proofs.Common.{◌≡◌, ℕ, List}
use Rattle.jh_history.specs.declared.entry.Entry.{Entry}
use Rattle.jh_history.specs.declared.form.Form.{Form}
use Rattle.jh_text.specs.Faults.{IsJournalText, IsFirstBadLine, IsTooLong}

-- no text is that of two journals
abbrev pub OneJournal : Type 0
OneJournal = (text : List ℕ) (form other : Form) (a b : List Entry) → IsJournalText text form a → IsJournalText text other b → a ≡ b

-- no text is a journal's and has a bad line
abbrev pub NoBadLine : Type 0
NoBadLine = (text : List ℕ) (form : Form) (entries : List Entry) (number : ℕ) → IsJournalText text form entries → IsFirstBadLine text number → ⊥

-- no text is a journal's and too long
abbrev pub NotLong : Type 0
NotLong = (text : List ℕ) (form : Form) (entries : List Entry) → IsJournalText text form entries → IsTooLong text → ⊥

-- no text has a bad line and is too long
abbrev pub NotBoth : Type 0
NotBoth = (text : List ℕ) (number : ℕ) → IsFirstBadLine text number → IsTooLong text → ⊥

-- no text has two first bad lines
abbrev pub OneLine : Type 0
OneLine = (text : List ℕ) (m n : ℕ) → IsFirstBadLine text m → IsFirstBadLine text n → m ≡ n
