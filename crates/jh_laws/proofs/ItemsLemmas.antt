-- Items, one after another.
use Rattle.std.proofs.Common.{◌≡◌, ℕ, zero, suc, ◌+◌, List, [], ◌∷◌, ◌++◌, Bool, true, false, refl, sym, ◌∙◌, ap, append_assoc, add-zero, add-suc, cond, arith, ◌⊎◌, inl, inr, ◌<◌, length, Option, Some, None}
use Rattle.std.specs.List.{fold, AllByRecursion, filter}
use Rattle.std.specs.Prelude.{nat_lt, IsTrue}
use Rattle.std.proofs.lemmas.Bool.{false≢true, cases_eq, cases_lt}
use Rattle.std.proofs.lemmas.List.Elements.{filter-append}
use Rattle.std.proofs.lemmas.List.{append-nil, length_push}
use Rattle.std.proofs.lemmas.List.Sums.{fold-append}
use Rattle.jh_script.specs.declared.image.Image.{Image}
use Rattle.jh_history.specs.declared.form.Form.{Form}
use Rattle.jh_history.specs.declared.entry.Entry.{Entry}
use Rattle.jh_history.specs.History.{facts}
use Rattle.jh_history.proofs.Public.{due_at_absent, due_at_beyond, reached}
use Rattle.jh_history.specs.Lives.{is_on_board}
use Rattle.jh_history.specs.Due.{due, IsQuiet}
use Rattle.jh_history.specs.Items.{Reached, with_due, with_item, items, below, rounds, cpus_of}

-- after a stop nothing changes
fold_full : (image : Image) (form : Form) (limit : ℕ) (cpus : List ℕ) (es : List Entry) → fold (with_item image form limit) (record { entries = es; full = true }) cpus ≡ record { entries = es; full = true }
fold_full image form limit [] es = refl
fold_full image form limit (cpu ∷ cpus) es = fold_full image form limit cpus es

-- items after others
pub items_append : (image : Image) (form : Form) (limit : ℕ) (xs ys : List ℕ) (es fs : List Entry) → items image form limit xs es ≡ record { entries = fs; full = false } → items image form limit (xs ++ ys) es ≡ items image form limit ys fs
unfolding items
items_append image form limit xs ys es fs h = fold-append (with_item image form limit) (record { entries = es; full = false }) xs ys ∙ ap (λ (r : Reached). fold (with_item image form limit) r ys) h

-- items after a stop
pub items_append_full : (image : Image) (form : Form) (limit : ℕ) (xs ys : List ℕ) (es fs : List Entry) → items image form limit xs es ≡ record { entries = fs; full = true } → items image form limit (xs ++ ys) es ≡ record { entries = fs; full = true }
unfolding items
items_append_full image form limit xs ys es fs h = fold-append (with_item image form limit) (record { entries = es; full = false }) xs ys ∙ ap (λ (r : Reached). fold (with_item image form limit) r ys) h ∙ fold_full image form limit ys fs

pub items_nil : (image : Image) (form : Form) (limit : ℕ) (es : List Entry) → items image form limit [] es ≡ record { entries = es; full = false }
unfolding items
items_nil image form limit es = refl

-- one item
pub items_one : (image : Image) (form : Form) (limit : ℕ) (cpu : ℕ) (es : List Entry) → items image form limit (cpu ∷ []) es ≡ with_due limit es (due image form es cpu)
unfolding items
items_one image form limit cpu es = refl

-- at a quiet journal no item changes anything
pub items_quiet : (image : Image) (form : Form) (limit : ℕ) (cpus : List ℕ) (es : List Entry) → IsQuiet image form es → items image form limit cpus es ≡ record { entries = es; full = false }
unfolding items
items_quiet image form limit [] es quiet = refl
items_quiet image form limit (cpu ∷ cpus) es quiet = rw (quiet cpu) (items_quiet image form limit cpus es quiet)

-- rounds after rounds
pub rounds_append : (n m : ℕ) (cpus : List ℕ) → rounds (n + m) cpus ≡ rounds n cpus ++ rounds m cpus
rounds_append n zero cpus = rw add-zero (sym (append-nil (rounds n cpus)))
rounds_append n (suc m) cpus = rw add-suc (ap (λ (xs : List ℕ). xs ++ cpus) (rounds_append n m cpus) ∙ append_assoc (rounds n cpus) (rounds m cpus) cpus)

-- nothing is due to these CPUs
abbrev pub NoneDue : Image → Form → List Entry → List ℕ → Type 0
NoneDue image form es cpus = AllByRecursion (λ cpu. due image form es cpu ≡ None) cpus

-- items that don't stop leave the journal, where nothing is due, or make it longer
abbrev pub Grows : Image → Form → List ℕ → List Entry → List Entry → Type 0
Grows image form cpus es fs = ((fs ≡ es) × NoneDue image form es cpus) ⊎ (length es < length fs)

grow_none : (image : Image) (form : Form) (cpu : ℕ) (cpus : List ℕ) (es fs : List Entry) → due image form es cpu ≡ None → Grows image form cpus es fs → Grows image form (cpu ∷ cpus) es fs
grow_none image form cpu cpus es fs none (inl same) = inl (same.0, (none, same.1))
grow_none image form cpu cpus es fs none (inr more) = inr more

grow_some : (image : Image) (form : Form) (cpu : ℕ) (cpus : List ℕ) (es fs : List Entry) (entry : Entry) → Grows image form cpus (es ++ entry ∷ []) fs → Grows image form (cpu ∷ cpus) es fs
grow_some image form cpu cpus es fs entry (inl same) = let n = ap length same.0 ∙ length_push es entry in inr (omega arith)
grow_some image form cpu cpus es fs entry (inr more) = let n = length_push es entry in inr (omega arith)

grow_limit : (image : Image) (form : Form) (limit cpu : ℕ) (cpus : List ℕ) (es fs : List Entry) (entry : Entry) (b : Bool)
    → ((es' : List Entry) → fold (with_item image form limit) (reached es' false) cpus ≡ reached fs false → Grows image form cpus es' fs)
    → fold (with_item image form limit) (cond b (reached (es ++ entry ∷ []) false) (reached es true)) cpus ≡ reached fs false → Grows image form (cpu ∷ cpus) es fs
grow_limit image form limit cpu cpus es fs entry true ih h = grow_some image form cpu cpus es fs entry (ih (es ++ entry ∷ []) h)
grow_limit image form limit cpu cpus es fs entry false ih h = absurd (false≢true (sym (ap (λ (r : Reached). r.full) (sym (fold_full image form limit cpus es) ∙ h))))

grow_item : (image : Image) (form : Form) (limit cpu : ℕ) (cpus : List ℕ) (es fs : List Entry) (o : Option Entry)
    → ((es' : List Entry) → fold (with_item image form limit) (reached es' false) cpus ≡ reached fs false → Grows image form cpus es' fs)
    → due image form es cpu ≡ o → fold (with_item image form limit) (with_due limit es o) cpus ≡ reached fs false → Grows image form (cpu ∷ cpus) es fs
grow_item image form limit cpu cpus es fs None ih e h = grow_none image form cpu cpus es fs e (ih es h)
grow_item image form limit cpu cpus es fs (Some entry) ih e h = grow_limit image form limit cpu cpus es fs entry (nat_lt (length es) limit) ih h

grow : (image : Image) (form : Form) (limit : ℕ) (cpus : List ℕ) (es fs : List Entry) → fold (with_item image form limit) (reached es false) cpus ≡ reached fs false → Grows image form cpus es fs
grow image form limit [] es fs h = inl (sym (ap (λ (r : Reached). r.entries) h), tt)
grow image form limit (cpu ∷ cpus) es fs h = grow_item image form limit cpu cpus es fs (due image form es cpu) (λ es' h'. grow image form limit cpus es' fs h') refl h

pub items_grows : (image : Image) (form : Form) (limit : ℕ) (cpus : List ℕ) (es fs : List Entry) → items image form limit cpus es ≡ record { entries = fs; full = false } → Grows image form cpus es fs
unfolding items
items_grows image form limit cpus es fs h = grow image form limit cpus es fs h

all_left : {X : Type 0} (P : X → Type 0) (xs ys : List X) → AllByRecursion P (xs ++ ys) → AllByRecursion P xs
all_left P [] ys h = tt
all_left P (x ∷ xs) ys h = (h.0, all_left P xs ys h.1)

all_right : {X : Type 0} (P : X → Type 0) (xs ys : List X) → AllByRecursion P (xs ++ ys) → AllByRecursion P ys
all_right P [] ys h = h
all_right P (x ∷ xs) ys h = all_right P xs ys h.1

all_one : (P : ℕ → Type 0) (b : Bool) (n : ℕ) → b ≡ true → AllByRecursion P (cond b (n ∷ []) []) → P n
all_one P true n e all = all.0
all_one P false n e all = absurd (false≢true e)

-- what holds of the numbers below n that pass
all_below : (P : ℕ → Type 0) (p : ℕ → Bool) (n k : ℕ) → AllByRecursion P (filter p (below n)) → k < n → p k ≡ true → P k
all_below P p zero k all lt e = absurd (omega arith)
all_below P p (suc n) k all lt e =
    let parts = rw filter-append at all in
    elim (cases_eq k n) [
      | inl same ↦ rw same (all_one P (p n) n (ap p (sym same) ∙ e) (all_right P (filter p (below n)) (filter p (n ∷ [])) parts))
      | inr other ↦ all_below P p n k (all_left P (filter p (below n)) (filter p (n ∷ [])) parts) (omega arith) e
    ]

quiet_at : (image : Image) (form : Form) (es : List Entry) (cpu : ℕ) (b : Bool) → (IsTrue (is_on_board image cpu) → cpu < 16) → AllByRecursion (λ cpu. due image form es cpu ≡ None) (filter (is_on_board image) (below 16)) → is_on_board image cpu ≡ b → due image form es cpu ≡ None
quiet_at image form es cpu false few all e = due_at_absent image (facts image form es) cpu e
quiet_at image form es cpu true few all e = elim (cases_lt cpu 16) [
  | inl lt ↦ all_below (λ cpu. due image form es cpu ≡ None) (is_on_board image) 16 cpu all lt e
  | inr le ↦ due_at_beyond image (facts image form es) cpu few le
]

-- where nothing is due to each CPU of the board, the journal is quiet
pub IsQuiet_from_cpus : (image : Image) (form : Form) (es : List Entry) → ((cpu : ℕ) → IsTrue (is_on_board image cpu) → cpu < 16) → NoneDue image form es (cpus_of image) → IsQuiet image form es
unfolding cpus_of
IsQuiet_from_cpus image form es few all cpu = quiet_at image form es cpu (is_on_board image cpu) (few cpu) all refl
