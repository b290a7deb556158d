-- Lines, and the texts that they make.
use Rattle.std.proofs.Common.{◌≡◌, ℕ, List, [], ◌∷◌, ◌++◌, length, Some, None, sym, ap, ◌∙◌, arith, append_assoc, length-append}
use Rattle.std.specs.List.{AllByRecursion}
use Rattle.std.proofs.lemmas.Option.{none-some, same_Some}
use Rattle.jh_history.specs.declared.entry.Entry.{Entry}
use Rattle.jh_text.specs.Ranges.{IsReadable}
use Rattle.jh_text.specs.Text.{line, lines_text}
use Rattle.jh_text.specs.declared.fault.TheConstants.{MAX_ENTRIES}
use Rattle.jh_text.specs.Faults.{BeginsWithNoLine}
use Rattle.jh_text.proofs.Bodies.{IsLongBody}
use Rattle.jh_text.specs.Private.Reading.{front_entry}
use Rattle.jh_text.proofs.Acts.{entry_again}

-- where a line ends, and which entry's it is, is told by the text alone
pub one_line : (entry other : Entry) (rest more : List ℕ) → IsReadable entry → IsReadable other → line entry ++ rest ≡ line other ++ more → (entry ≡ other) × (rest ≡ more)
one_line entry other rest more h k e =
    let parts : (entry, rest) ≡ (other, more) = same_Some _ _ (sym (entry_again entry rest h) ∙ ap front_entry e ∙ entry_again other more k) in
    (ap (λ (x : Entry × List ℕ). x.0) parts, ap (λ (x : Entry × List ℕ). x.1) parts)

-- where no entry is read, no line begins
pub no_line : (text : List ℕ) → front_entry text ≡ None → BeginsWithNoLine text
no_line text none = λ entry rest h e. none-some _ (sym none ∙ ap front_entry e ∙ entry_again entry rest h)

-- what is read of the text is the entry with whose line it begins
pub first_entry : (text rest more : List ℕ) (found entry : Entry) → front_entry text ≡ Some (found, rest) → IsReadable entry → text ≡ line entry ++ more → (found ≡ entry) × (rest ≡ more)
first_entry text rest more found entry read h e =
    let parts : (found, rest) ≡ (entry, more) = same_Some _ _ (sym read ∙ ap front_entry e ∙ entry_again entry more h) in
    (ap (λ (x : Entry × List ℕ). x.0) parts, ap (λ (x : Entry × List ℕ). x.1) parts)

pub all_push : (entries : List Entry) (entry : Entry) → AllByRecursion IsReadable entries → IsReadable entry → AllByRecursion IsReadable (entries ++ entry ∷ [])
all_push [] entry all h = (h, tt)
all_push (first ∷ entries) entry all h = (all.0, all_push entries entry all.1 h)

pub text_push : (entries : List Entry) (entry : Entry) (rest : List ℕ) → lines_text (entries ++ entry ∷ []) ++ rest ≡ lines_text entries ++ (line entry ++ rest)
text_push [] entry rest = append_assoc (line entry) [] rest
text_push (first ∷ entries) entry rest =
    append_assoc (line first) (lines_text (entries ++ entry ∷ [])) rest ∙ ap (λ t. line first ++ t) (text_push entries entry rest) ∙ sym (append_assoc (line first) (lines_text entries) (line entry ++ rest))

-- one line more than a journal may have
pub too_long : (text rest after : List ℕ) (entries : List Entry) (entry : Entry) → AllByRecursion IsReadable entries → IsReadable entry → length entries ≡ MAX_ENTRIES → text ≡ lines_text entries ++ rest → rest ≡ line entry ++ after → IsLongBody text
too_long text rest after entries entry all h full whole next = record {
  first = entries ++ entry ∷ [];
  rest = after;
  readable = all_push entries entry all h;
  long = omega (arith, length-append entries (entry ∷ []));
  whole = whole ∙ ap (λ t. lines_text entries ++ t) next ∙ sym (text_push entries entry after);
}
