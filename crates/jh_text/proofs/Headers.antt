-- The header of a text, and what stands behind it.
use Rattle.std.proofs.Common.{◌≡◌, ℕ, ◌+◌, ◌≤◌, Bool, true, false, List, [], ◌∷◌, ◌++◌, length, take, drop, codes, Some, None, refl, sym, ap, ◌∙◌, inl, inr, ◌⊎◌, ⊎_elim, arith}
use Rattle.std.specs.List.{AllByRecursion}
use Rattle.std.specs.Fmt.{decimal}
use Rattle.std.proofs.lemmas.Bool.{false_from_ne_true}
use Rattle.std.proofs.lemmas.List.{take-append-drop}
use Rattle.std.proofs.lemmas.Option.{none-some, same_Some}
use Rattle.std.proofs.lemmas.Slice.Eq.{bytes_eq-Decides}
use Rattle.jh_history.specs.declared.entry.Entry.{Entry}
use Rattle.jh_history.specs.declared.form.Form.{Form}
use Rattle.jh_history.specs.declared.form.Form.TheVariants.{One, Two}
use Rattle.jh_text.specs.Ranges.{IsReadable, IsTyped}
use Rattle.jh_text.specs.Text.{entry_text, line, lines_text, header, has_header, header_lines, form_by, form_of, body_of, journal_text}
use Rattle.jh_text.specs.Faults.{IsJournalText, IsFirstBadLine, IsTooLong, HasAnswer}
use Rattle.jh_text.specs.Private.Reading.{number_until, digits_until, front_entry}
use Rattle.jh_text.proofs.Acts.{entry_again}
use Rattle.jh_text.proofs.Bodies.{IsBody, IsBadBody, IsLongBody}
use Rattle.jh_text.proofs.EveryText.{every_text}
use Rattle.jh_text.proofs.Splits.{split_once, split_once_front}
use Rattle.jh_text.proofs.Texts.{one_journal, journal_not_bad, journal_not_long, bad_not_long, one_bad_line}
use Rattle.jh_text.proofs.TypedTexts.{typed_journals, line_split, first_word, number}

-- ---- the header and what stands behind it are the text

split_by : (text : List ℕ) (b : Bool) → has_header text ≡ b → text ≡ header (form_by b) ++ drop (length (header (form_by b))) text
split_by text true is =
    let front : take (length (header Two)) text ≡ header Two = (bytes_eq-Decides (take (length (header Two)) text) (header Two)).0 is in
    sym (take-append-drop (length (header Two)) text) ∙ ap (λ (t : List ℕ). t ++ drop (length (header Two)) text) front
split_by text false is = refl

text_split : (text : List ℕ) → text ≡ header (form_of text) ++ body_of text
text_split text = split_by text (has_header text) refl

-- what stands behind the same header is the same
behind_same : (form : Form) (a b : List ℕ) → header form ++ a ≡ header form ++ b → a ≡ b
behind_same One a b e = e
behind_same Two a b e = ap (drop (length (header Two))) e

-- ---- no line of an entry is the header

front_header : (more : List ℕ) → front_entry (header Two ++ more) ≡ None
unfolding front_entry number_until digits_until
front_header more = refl

no_header_line : (entry : Entry) (rest more : List ℕ) → IsReadable entry → line entry ++ rest ≡ header Two ++ more → ⊥
no_header_line entry rest more h e = none-some (entry, rest) (sym (front_header more) ∙ ap front_entry (sym e) ∙ entry_again entry rest h)

no_header : (entries : List Entry) → AllByRecursion IsReadable entries → has_header (lines_text entries) ≡ false
no_header [] all = refl
no_header (x ∷ entries) all =
    let text : List ℕ = lines_text (x ∷ entries) in
    false_from_ne_true (has_header text) (λ yes. no_header_line x (lines_text entries) (drop (length (header Two)) text) all.0 (split_by text true yes))

printed_form : (form : Form) (entries : List Entry) → AllByRecursion IsReadable entries → form ≡ form_of (journal_text form entries)
printed_form One entries all = ap form_by (sym (no_header entries all))
printed_form Two entries all = refl

pub printed : (form : Form) (entries : List Entry) → AllByRecursion IsReadable entries → length entries ≤ 262144 → IsJournalText (journal_text form entries) form entries
printed form entries readable within = record { form_is = printed_form form entries readable; readable = readable; within = within; whole = refl }

-- ---- a text by what stands behind its header

body_journal : (text : List ℕ) (form : Form) (entries : List Entry) → IsJournalText text form entries → IsBody (body_of text) entries
body_journal text form entries j = record {
  readable = j.readable;
  within = j.within;
  whole = behind_same (form_of text) (body_of text) (lines_text entries) (sym (text_split text) ∙ j.whole ∙ ap (λ (f : Form). header f ++ lines_text entries) j.form_is);
}

pub text_journal : (text : List ℕ) (entries : List Entry) → IsBody (body_of text) entries → IsJournalText text (form_of text) entries
text_journal text entries b = record { form_is = refl; readable = b.readable; within = b.within; whole = text_split text ∙ ap (λ (t : List ℕ). header (form_of text) ++ t) b.whole }

body_bad : (text : List ℕ) (number : ℕ) (bad : IsFirstBadLine text number) → IsBadBody (body_of text) (length bad.before + 1)
body_bad text number bad = record { before = bad.before; rest = bad.rest; readable = bad.readable; within = bad.within; number_is = refl; whole = bad.whole; more = bad.more; bad = bad.bad }

text_bad : (text : List ℕ) (number : ℕ) → IsBadBody (body_of text) number → IsFirstBadLine text (number + header_lines (form_of text))
text_bad text number bad = record {
  before = bad.before;
  rest = bad.rest;
  readable = bad.readable;
  within = bad.within;
  number_is = ap (λ (n : ℕ). n + header_lines (form_of text)) bad.number_is;
  whole = bad.whole;
  more = bad.more;
  bad = bad.bad;
}

body_long : (text : List ℕ) → IsTooLong text → IsLongBody (body_of text)
body_long text t = record { first = t.first; rest = t.rest; readable = t.readable; long = t.long; whole = t.whole }

pub text_long : (text : List ℕ) → IsLongBody (body_of text) → IsTooLong text
text_long text t = record { first = t.first; rest = t.rest; readable = t.readable; long = t.long; whole = t.whole }

-- ---- the laws

pub one_text : (text : List ℕ) (form other : Form) (a b : List Entry) → IsJournalText text form a → IsJournalText text other b → a ≡ b
one_text text form other a b j k = one_journal (body_of text) a b (body_journal text form a j) (body_journal text other b k)

pub one_form : (text : List ℕ) (form other : Form) (a b : List Entry) → IsJournalText text form a → IsJournalText text other b → form ≡ other
one_form text form other a b j k = j.form_is ∙ sym k.form_is

pub text_not_bad : (text : List ℕ) (form : Form) (entries : List Entry) (number : ℕ) → IsJournalText text form entries → IsFirstBadLine text number → ⊥
text_not_bad text form entries number j bad = journal_not_bad (body_of text) entries (length bad.before + 1) (body_journal text form entries j) (body_bad text number bad)

pub text_not_long : (text : List ℕ) (form : Form) (entries : List Entry) → IsJournalText text form entries → IsTooLong text → ⊥
text_not_long text form entries j t = journal_not_long (body_of text) entries (body_journal text form entries j) (body_long text t)

pub bad_not_long_text : (text : List ℕ) (number : ℕ) → IsFirstBadLine text number → IsTooLong text → ⊥
bad_not_long_text text number bad t = bad_not_long (body_of text) (length bad.before + 1) (body_bad text number bad) (body_long text t)

pub one_bad_number : (text : List ℕ) (m n : ℕ) → IsFirstBadLine text m → IsFirstBadLine text n → m ≡ n
one_bad_number text m n a b =
    a.number_is
    ∙ ap (λ (k : ℕ). k + header_lines (form_of text)) (one_bad_line (body_of text) (length a.before + 1) (length b.before + 1) (body_bad text m a) (body_bad text n b))
    ∙ sym b.number_is

pub every_answer : (text : List ℕ) → HasAnswer text
every_answer text =
    ⊎_elim
    (λ (good : (entries : List Entry) × IsBody (body_of text) entries). inl (good.0, text_journal text good.0 good.1))
    (λ (other : ((number : ℕ) × IsBadBody (body_of text) number) ⊎ IsLongBody (body_of text)).
    ⊎_elim
    (λ (bad : (number : ℕ) × IsBadBody (body_of text) number). inr (inl (bad.0 + header_lines (form_of text), text_bad text bad.0 bad.1)))
    (λ (long : IsLongBody (body_of text)). inr (inr (text_long text long)))
    other)
    (every_text (body_of text))

-- ---- journals of numbers of their types

no_number : number 255 (codes "jailhouse") ≡ None
unfolding number_until digits_until
no_number = refl

header_split : (more : List ℕ) → split_once 10 (header Two ++ more) ≡ Some (codes "jailhouse journal 2", more)
header_split more = split_once_front 10 (codes "jailhouse journal 2") more (record { none = refl })

header_word : split_once 32 (codes "jailhouse journal 2") ≡ Some (codes "jailhouse", codes "journal 2")
header_word = split_once_front 32 (codes "jailhouse") (codes "journal 2") (record { none = refl })

no_typed_header : (entry : Entry) (rest more : List ℕ) → IsTyped entry → line entry ++ rest ≡ header Two ++ more → ⊥
no_typed_header entry rest more h e =
    let parts : (entry_text entry, rest) ≡ (codes "jailhouse journal 2", more) = same_Some _ _ (sym (line_split entry rest h) ∙ ap (split_once 10) e ∙ header_split more) in
    let text : entry_text entry ≡ codes "jailhouse journal 2" = ap (λ (p : List ℕ × List ℕ). p.0) parts in
    let first = first_word entry h in
    let words : (decimal entry.cpu, first.0) ≡ (codes "jailhouse", codes "journal 2") = same_Some _ _ (sym first.1 ∙ ap (split_once 32) text ∙ header_word) in
    none-some entry.cpu (sym no_number ∙ ap (number 255) (sym (ap (λ (p : List ℕ × List ℕ). p.0) words)) ∙ first.2)

no_typed : (a b : List Entry) → AllByRecursion IsTyped a → lines_text a ≡ header Two ++ lines_text b → ⊥
no_typed [] b all e = let no : ⊥ = omega (arith, ap length e) in no
no_typed (x ∷ a) b all e = no_typed_header x (lines_text a) (lines_text b) all.0 e

pub typed_entries_same : (form other : Form) (a b : List Entry) → AllByRecursion IsTyped a → AllByRecursion IsTyped b → journal_text form a ≡ journal_text other b → a ≡ b
typed_entries_same One One a b h k e = typed_journals a b h k e
typed_entries_same Two Two a b h k e = typed_journals a b h k (behind_same Two (lines_text a) (lines_text b) e)
typed_entries_same One Two a b h k e = absurd (no_typed a b h e)
typed_entries_same Two One a b h k e = absurd (no_typed b a k (sym e))

pub typed_forms_same : (form other : Form) (a b : List Entry) → AllByRecursion IsTyped a → AllByRecursion IsTyped b → journal_text form a ≡ journal_text other b → form ≡ other
typed_forms_same One One a b h k e = refl
typed_forms_same Two Two a b h k e = refl
typed_forms_same One Two a b h k e = absurd (no_typed a b h e)
typed_forms_same Two One a b h k e = absurd (no_typed b a k (sym e))
