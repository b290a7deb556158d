-- Every text has an answer.
use Rattle.std.proofs.Common.{◌≡◌, ◌≢◌, ℕ, zero, suc, ◌+◌, ◌^◌, ◌<◌, ◌≤◌, ℤ, pos, negsuc, Bool, List, [], ◌∷◌, ◌++◌, length, Option, Some, None, refl, sym, ap, ◌∙◌, subst, arith, FitsSigned, w64, length-append, ◌⊎◌, inl, inr, IsTrue}
use Rattle.std.specs.Option.{IfSome}
use Rattle.std.specs.Str.{bytes_eq}
use Rattle.std.specs.List.{AllByRecursion}
use Rattle.std.proofs.lemmas.Bool.{cases_Bool, cases_lt, both_ways, false≢true}
use Rattle.std.proofs.lemmas.List.{append-nil}
use Rattle.std.proofs.lemmas.Slice.Eq.{bytes_eq-Decides}
use Rattle.jh_history.specs.declared.entry.Entry.{Entry}
use Rattle.jh_history.specs.declared.entry.Act.{Act}
use Rattle.jh_history.specs.declared.entry.Act.TheVariants.{Read, Write, Fetch, Await, Irq, Hvc, Begin, Stop, Decide, Settle, Commit, Note, Noted, Finish}
use Rattle.jh_text.specs.declared.fault.TheConstants.{MAX_ENTRIES}
use Rattle.jh_text.specs.Ranges.{is_width, IsReadableAct, IsReadable}
use Rattle.jh_text.specs.Text.{entry_text, line, lines_text}
use Rattle.jh_text.specs.Faults.{BeginsWithLine, BeginsWithNoLine}
use Rattle.jh_text.proofs.Bodies.{HasBodyAnswer}
use Rattle.jh_text.specs.Private.Reading.{front_entry}
use Rattle.jh_text.proofs.Lines.{no_line, first_entry, all_push, text_push, too_long}

-- ---- whether an entry is readable is told by its numbers

abbrev Decided : Type 0 → Type 0
Decided P = P ⊎ (P → ⊥)

both : {P Q : Type 0} → Decided P → Decided Q → Decided (P × Q)
both (inl p) (inl q) = inl (p, q)
both (inl p) (inr q) = inr (λ h. q h.1)
both (inr p) q = inr (λ h. p h.0)

three : {P Q R : Type 0} → Decided P → Decided Q → Decided R → Decided (P × Q × R)
three (inl p) (inl q) (inl r) = inl (p, q, r)
three (inl p) (inl q) (inr r) = inr (λ h. r h.2)
three (inl p) (inr q) r = inr (λ h. q h.1)
three (inr p) q r = inr (λ h. p h.0)

four : {P Q R S : Type 0} → Decided P → Decided Q → Decided R → Decided S → Decided (P × Q × R × S)
four (inl p) (inl q) (inl r) (inl s) = inl (p, q, r, s)
four (inl p) (inl q) (inl r) (inr s) = inr (λ h. s h.3)
four (inl p) (inl q) (inr r) s = inr (λ h. r h.2)
four (inl p) (inr q) r s = inr (λ h. q h.1)
four (inr p) q r s = inr (λ h. p h.0)

is_true : (b : Bool) → Decided (IsTrue b)
is_true b = elim (cases_Bool b) as (λ _. Decided (IsTrue b)) [
  | inl holds ↦ inl holds
  | inr fails ↦ inr (λ h. both_ways b fails h)
]

below : (a b : ℕ) → Decided (a < b)
below a b = elim (cases_lt a b) as (λ _. Decided (a < b)) [
  | inl less ↦ inl less
  | inr more ↦ inr (λ (h : a < b). let no : ⊥ = omega arith in no)
]

fits : (z : ℤ) → Decided (FitsSigned w64 z)
fits (pos n) = elim (cases_lt n (2 ^ 63)) as (λ _. Decided (FitsSigned w64 (pos n))) [
  | inl less ↦ inl (record { sfits = less })
  | inr more ↦ inr (λ h. let less : n < 2 ^ 63 = h.sfits in let no : ⊥ = omega arith in no)
]
fits (negsuc n) = elim (cases_lt n (2 ^ 63)) as (λ _. Decided (FitsSigned w64 (negsuc n))) [
  | inl less ↦ inl (record { sfits = less })
  | inr more ↦ inr (λ h. let less : n < 2 ^ 63 = h.sfits in let no : ⊥ = omega arith in no)
]

some : {X : Type 0} (P : X → Type 0) → ((x : X) → Decided (P x)) → (o : Option X) → Decided (IfSome o P)
some P each None = inl tt
some P each (Some x) = each x

readable_act : (act : Act) → Decided (IsReadableAct act)
readable_act (Read width at got) = three (is_true (is_width width)) (below at (2 ^ 64)) (some (λ value. value < 256 ^ width) (λ value. below value (256 ^ width)) got)
readable_act (Write width at value ok) = three (is_true (is_width width)) (below at (2 ^ 64)) (below value (256 ^ width))
readable_act (Fetch at got) = both (below at (2 ^ 64)) (some (λ value. value < 2 ^ 32) (λ value. below value (2 ^ 32)) got)
readable_act (Await width at value ok) = three (is_true (is_width width)) (below at (2 ^ 64)) (below value (256 ^ width))
readable_act (Irq device vector) = both (below device (2 ^ 32)) (below vector 256)
readable_act (Hvc code a b answer) = four (below code (2 ^ 64)) (below a (2 ^ 64)) (below b (2 ^ 64)) (fits answer)
readable_act (Begin code a b) = three (below code (2 ^ 64)) (below a (2 ^ 64)) (below b (2 ^ 64))
readable_act Stop = inl tt
readable_act (Decide refused) = some (FitsSigned w64) fits refused
readable_act (Settle how) = inl tt
readable_act Commit = inl tt
readable_act (Note id) = below id (2 ^ 32)
readable_act (Noted id how) = below id (2 ^ 32)
readable_act (Finish answer) = fits answer

readable : (entry : Entry) → Decided (IsReadable entry)
readable entry = elim (three (below entry.cpu 16) (below entry.cell (2 ^ 32)) (readable_act entry.act)) as (λ _. Decided (IsReadable entry)) [
  | inl h ↦ inl (record { cpu = h.0; cell = h.1; act = h.2 })
  | inr never ↦ inr (λ h. never (h.cpu, h.cell, h.act))
]

-- ---- a text begins with a line, or with none

line_by : (text rest : List ℕ) (found : Entry) → front_entry text ≡ Some (found, rest) → text ≡ line found ++ rest → BeginsWithLine text ⊎ BeginsWithNoLine text
line_by text rest found read spelled = elim (readable found) as (λ _. BeginsWithLine text ⊎ BeginsWithNoLine text) [
  | inl h ↦ inl (record { entry = found; rest = rest; readable = h; whole = spelled })
  | inr never ↦ inr (λ entry more h e. never (subst IsReadable (sym (first_entry text rest more found entry read h e).0) h))
]

-- an entry is read, with this line or with another
line_if : (text rest : List ℕ) (found : Entry) → front_entry text ≡ Some (found, rest) → BeginsWithLine text ⊎ BeginsWithNoLine text
line_if text rest found read = elim (cases_Bool (bytes_eq text (line found ++ rest))) as (λ _. BeginsWithLine text ⊎ BeginsWithNoLine text) [
  | inl same ↦ line_by text rest found read ((bytes_eq-Decides text (line found ++ rest)).0 same)
  | inr differ ↦ inr (λ entry more h e.
      let is = first_entry text rest more found entry read h e in
      let spelled : text ≡ line found ++ rest = e ∙ (λ i. line (sym is.0 i) ++ sym is.1 i) in
      false≢true (sym differ ∙ (bytes_eq-Decides text (line found ++ rest)).1 spelled))
]

first_by : (text : List ℕ) (o : Option (Entry × List ℕ)) → front_entry text ≡ o → BeginsWithLine text ⊎ BeginsWithNoLine text
first_by text None none = inr (no_line text none)
first_by text (Some x) read = line_if text x.1 x.0 read

-- ---- line by line

-- each line is some bytes of what is left
shorter : (rest after : List ℕ) (entry : Entry) → rest ≡ line entry ++ after → length after < length rest
shorter rest after entry whole = omega (arith, ap length whole, length-append (line entry) after, length-append (entry_text entry) (10 ∷ []))

no_nil : (c : ℕ) (cs : List ℕ) → c ∷ cs ≢ []
no_nil c cs = λ e. let no : ⊥ = omega (arith, ap length e) in no

answer_from : (most : ℕ) (text : List ℕ) (before : List Entry) (rest : List ℕ) → AllByRecursion IsReadable before → length before ≤ MAX_ENTRIES
    → text ≡ lines_text before ++ rest → length rest ≤ most → HasBodyAnswer text
answer_from most text before [] all within whole small =
    inl (before, record { readable = all; within = within; whole = whole ∙ append-nil (lines_text before) })
answer_from zero text before (c ∷ cs) all within whole small = absurd (let no : ⊥ = omega arith in no)
answer_from (suc most) text before (c ∷ cs) all within whole small = elim (first_by (c ∷ cs) (front_entry (c ∷ cs)) refl) as (λ _. HasBodyAnswer text) [
  | inr none ↦ inr (inl (length before + 1, record { before = before; rest = c ∷ cs; readable = all; within = within; number_is = refl; whole = whole; more = no_nil c cs; bad = none }))
  | inl first ↦ elim (cases_lt (length before) MAX_ENTRIES) as (λ _. HasBodyAnswer text) [
    | inl room ↦
        let less = shorter (c ∷ cs) first.rest first.entry first.whole in
        answer_from most text (before ++ first.entry ∷ []) first.rest (all_push before first.entry all first.readable)
        (omega (arith, length-append before (first.entry ∷ [])))
        (whole ∙ ap (λ t. lines_text before ++ t) first.whole ∙ sym (text_push before first.entry first.rest))
        (omega arith)
    | inr full ↦
        let count : length before ≡ MAX_ENTRIES = omega arith in
        inr (inr (too_long text (c ∷ cs) first.rest before first.entry all first.readable count whole first.whole))
  ]
]

pub every_text : (text : List ℕ) → HasBodyAnswer text
every_text text = answer_from (length text) text [] text tt (omega arith) refl (omega arith)
