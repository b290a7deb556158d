-- What items do, and how they end.
use Rattle.std.proofs.Common.{inl, inr, ◌⊎◌, ◌≡◌, ℕ, zero, suc, ◌+◌, ◌-◌, ◌<◌, ◌≤◌, List, [], ◌∷◌, ◌++◌, length, get_or, Bool, true, false, cond, Option, Some, None, is_some, refl, sym, ap, subst, ◌∙◌, arith, append_assoc}
use Rattle.std.specs.Prelude.{IsTrue, IsSome, Contains}
use Rattle.std.specs.List.Sorted.{IsStrictlyIncreasing}
use Rattle.std.proofs.lemmas.Bool.{false≢true, cases_lt, lt-ltb, le-ltb}
use Rattle.std.proofs.lemmas.List.{length_push, get_or_append_left, get_or_push}
use Rattle.std.proofs.lemmas.List.Elements.{Contains-append_left, Contains-append_right}
use Rattle.std.proofs.lemmas.List.Kept.{IsStrictlyIncreasing-filter}
use Rattle.jh_num.proofs.Public.{Contains_head, Contains_filter, IsFound_from_filter}
use Rattle.jh_script.specs.declared.image.Image.{Image}
use Rattle.jh_history.specs.declared.form.Form.{Form}
use Rattle.jh_history.specs.declared.entry.Entry.{Entry}
use Rattle.jh_history.specs.Lives.{is_on_board}
use Rattle.jh_history.specs.Due.{due, IsLegal, IsQuiet}
use Rattle.jh_history.specs.Items.{Reached, with_due, items, played, below, rounds, cpus_of}
use Rattle.jh_history.specs.Admitted.{IsAdmitted}
use Rattle.jh_history.proofs.Public.{IsLegal_made, IsLegal_nil, reached}
use Rattle.jh_laws.specs.Items.{ItemsLead, IsCutShort}
use Rattle.jh_laws.proofs.RootLemmas.{few_cpus}
use Rattle.jh_laws.proofs.ItemsLemmas.{items_append, items_append_full, items_nil, items_one, items_quiet, rounds_append, Grows, items_grows, IsQuiet_from_cpus}

never_both : (es fs : List Entry) → reached es false ≡ reached fs true → ⊥
never_both es fs e = false≢true (ap (λ (r : Reached). r.full) e)

-- the first item, by what is due to its CPU
item_none : (image : Image) (form : Form) (limit cpu : ℕ) (cpus : List ℕ) (es : List Entry) → due image form es cpu ≡ None → items image form limit (cpu ∷ cpus) es ≡ items image form limit cpus es
item_none image form limit cpu cpus es none = items_append image form limit (cpu ∷ []) cpus es es (items_one image form limit cpu es ∙ ap (with_due limit es) none)

item_made : (image : Image) (form : Form) (limit cpu : ℕ) (cpus : List ℕ) (es : List Entry) (entry : Entry) → due image form es cpu ≡ Some entry → length es < limit → items image form limit (cpu ∷ cpus) es ≡ items image form limit cpus (es ++ entry ∷ [])
item_made image form limit cpu cpus es entry is lt =
    let one : items image form limit (cpu ∷ []) es ≡ reached (es ++ entry ∷ []) false
    = items_one image form limit cpu es ∙ ap (with_due limit es) is ∙ ap (λ (b : Bool). cond b (reached (es ++ entry ∷ []) false) (reached es true)) (lt-ltb (length es) limit lt) in
    items_append image form limit (cpu ∷ []) cpus es (es ++ entry ∷ []) one

item_full : (image : Image) (form : Form) (limit cpu : ℕ) (cpus : List ℕ) (es : List Entry) (entry : Entry) → due image form es cpu ≡ Some entry → limit ≤ length es → items image form limit (cpu ∷ cpus) es ≡ reached es true
item_full image form limit cpu cpus es entry is le =
    let one : items image form limit (cpu ∷ []) es ≡ reached es true
    = items_one image form limit cpu es ∙ ap (with_due limit es) is ∙ ap (λ (b : Bool). cond b (reached (es ++ entry ∷ []) false) (reached es true)) (le-ltb (length es) limit le) in
    items_append_full image form limit (cpu ∷ []) cpus es es one

-- items that don't end full lead to where they end
lead_item : (image : Image) (form : Form) (limit cpu : ℕ) (cpus : List ℕ) (es fs : List Entry) (o : Option Entry)
    → ((gs : List Entry) → items image form limit cpus gs ≡ reached fs false → ItemsLead image form limit cpus gs fs)
    → due image form es cpu ≡ o → items image form limit (cpu ∷ cpus) es ≡ reached fs false → ItemsLead image form limit (cpu ∷ cpus) es fs
lead_item image form limit cpu cpus es fs None rest is h = inl (is, rest es (sym (item_none image form limit cpu cpus es is) ∙ h))
lead_item image form limit cpu cpus es fs (Some entry) rest is h = elim (cases_lt (length es) limit) [
  | inl lt ↦ inr (entry, is, lt, rest (es ++ entry ∷ []) (sym (item_made image form limit cpu cpus es entry is lt) ∙ h))
  | inr le ↦ absurd (never_both fs es (sym h ∙ item_full image form limit cpu cpus es entry is le))
]

pub lead_from_items : (image : Image) (form : Form) (limit : ℕ) (cpus : List ℕ) (es fs : List Entry) → items image form limit cpus es ≡ reached fs false → ItemsLead image form limit cpus es fs
lead_from_items image form limit [] es fs h = sym (ap (λ (r : Reached). r.entries) (sym (items_nil image form limit es) ∙ h))
lead_from_items image form limit (cpu ∷ cpus) es fs h = lead_item image form limit cpu cpus es fs (due image form es cpu) (λ gs. lead_from_items image form limit cpus gs fs) refl h

-- and what they lead to is what they do
pub items_from_lead : (image : Image) (form : Form) (limit : ℕ) (cpus : List ℕ) (es fs : List Entry) → ItemsLead image form limit cpus es fs → items image form limit cpus es ≡ reached fs false
items_from_lead image form limit [] es fs lead = items_nil image form limit es ∙ ap (λ (gs : List Entry). reached gs false) (sym lead)
items_from_lead image form limit (cpu ∷ cpus) es fs lead = elim lead [
  | inl same ↦ item_none image form limit cpu cpus es same.0 ∙ items_from_lead image form limit cpus es fs same.1
  | inr more ↦ item_made image form limit cpu cpus es more.0 more.1 more.2 ∙ items_from_lead image form limit cpus (es ++ more.0 ∷ []) fs more.3
]

-- items that end full are cut short
cut_behind : (image : Image) (form : Form) (limit cpu : ℕ) (cpus : List ℕ) (es gs fs : List Entry) → ((done : List ℕ) → ItemsLead image form limit done gs fs → ItemsLead image form limit (cpu ∷ done) es fs) → IsCutShort image form limit cpus gs fs
    → IsCutShort image form limit (cpu ∷ cpus) es fs
cut_behind image form limit cpu cpus es gs fs one cut = record {
  done = cpu ∷ cut.done;
  next = cut.next;
  left = cut.left;
  split = ap (λ (xs : List ℕ). cpu ∷ xs) cut.split;
  lead = one cut.done cut.lead;
  is_due = cut.is_due;
  reached = cut.reached;
}

cut_here : (image : Image) (form : Form) (limit cpu : ℕ) (cpus : List ℕ) (es fs : List Entry) (entry : Entry) → due image form es cpu ≡ Some entry → limit ≤ length es → fs ≡ es → IsCutShort image form limit (cpu ∷ cpus) es fs
cut_here image form limit cpu cpus es fs entry is le same =
    let P : List Entry → Type 0 = λ gs. IsCutShort image form limit (cpu ∷ cpus) es gs in
    subst P (sym same) (record { done = []; next = cpu; left = cpus; split = refl; lead = refl; is_due = ap (λ (o : Option Entry). is_some o) is; reached = le })

cut_item : (image : Image) (form : Form) (limit cpu : ℕ) (cpus : List ℕ) (es fs : List Entry) (o : Option Entry)
    → ((gs : List Entry) → items image form limit cpus gs ≡ reached fs true → IsCutShort image form limit cpus gs fs)
    → due image form es cpu ≡ o → items image form limit (cpu ∷ cpus) es ≡ reached fs true → IsCutShort image form limit (cpu ∷ cpus) es fs
cut_item image form limit cpu cpus es fs None rest is h =
    cut_behind image form limit cpu cpus es es fs (λ done lead. inl (is, lead)) (rest es (sym (item_none image form limit cpu cpus es is) ∙ h))
cut_item image form limit cpu cpus es fs (Some entry) rest is h = elim (cases_lt (length es) limit) [
  | inl lt ↦ cut_behind image form limit cpu cpus es (es ++ entry ∷ []) fs (λ done lead. inr (entry, is, lt, lead)) (rest (es ++ entry ∷ []) (sym (item_made image form limit cpu cpus es entry is lt) ∙ h))
  | inr le ↦ cut_here image form limit cpu cpus es fs entry is le (ap (λ (r : Reached). r.entries) (sym h ∙ item_full image form limit cpu cpus es entry is le))
]

pub cut_from_items : (image : Image) (form : Form) (limit : ℕ) (cpus : List ℕ) (es fs : List Entry) → items image form limit cpus es ≡ reached fs true → IsCutShort image form limit cpus es fs
cut_from_items image form limit [] es fs h = absurd (never_both es fs (sym (items_nil image form limit es) ∙ h))
cut_from_items image form limit (cpu ∷ cpus) es fs h = cut_item image form limit cpu cpus es fs (due image form es cpu) (λ gs. cut_from_items image form limit cpus gs fs) refl h

-- and what is cut short is what they do
cut_by : (image : Image) (form : Form) (limit : ℕ) (fs : List Entry) (next : ℕ) (left : List ℕ) (o : Option Entry) → due image form fs next ≡ o → IsSome o → limit ≤ length fs → items image form limit (next ∷ left) fs ≡ reached fs true
cut_by image form limit fs next left None is some le = absurd (false≢true some)
cut_by image form limit fs next left (Some entry) is some le = item_full image form limit next left fs entry is le

pub items_from_cut : (image : Image) (form : Form) (limit : ℕ) (cpus : List ℕ) (es fs : List Entry) → IsCutShort image form limit cpus es fs → items image form limit cpus es ≡ reached fs true
items_from_cut image form limit cpus es fs cut =
    ap (λ (xs : List ℕ). items image form limit xs es) cut.split
    ∙ items_append image form limit cut.done (cut.next ∷ cut.left) es fs (items_from_lead image form limit cut.done es fs cut.lead)
    ∙ cut_by image form limit fs cut.next cut.left (due image form fs cut.next) refl cut.is_due cut.reached

-- they stay within the limit
pub lead_few : (image : Image) (form : Form) (limit : ℕ) (cpus : List ℕ) (es fs : List Entry) → ItemsLead image form limit cpus es fs → length es ≤ limit → length fs ≤ limit
lead_few image form limit [] es fs lead few = let same : length fs ≡ length es = ap length lead in omega arith
lead_few image form limit (cpu ∷ cpus) es fs lead few = elim lead [
  | inl same ↦ lead_few image form limit cpus es fs same.1 few
  | inr more ↦ lead_few image form limit cpus (es ++ more.0 ∷ []) fs more.3 (let one : length (es ++ more.0 ∷ []) ≡ length es + 1 = length_push es more.0 in let lt : length es < limit = more.2 in omega arith)
]

-- and leave a legal journal legal
pub lead_legal : (image : Image) (form : Form) (limit : ℕ) (cpus : List ℕ) (es fs : List Entry) → ItemsLead image form limit cpus es fs → IsLegal image form es → IsLegal image form fs
lead_legal image form limit [] es fs lead legal = let P : List Entry → Type 0 = IsLegal image form in subst P (sym lead) legal
lead_legal image form limit (cpu ∷ cpus) es fs lead legal = elim lead [
  | inl same ↦ lead_legal image form limit cpus es fs same.1 legal
  | inr more ↦ lead_legal image form limit cpus (es ++ more.0 ∷ []) fs more.3 (IsLegal_made image form es (es ++ more.0 ∷ []) cpu more.0 legal more.1 refl)
]

-- both, however the items end
few_by : (image : Image) (form : Form) (limit : ℕ) (cpus : List ℕ) (es fs : List Entry) (b : Bool) → items image form limit cpus es ≡ reached fs b → length es ≤ limit → length fs ≤ limit
few_by image form limit cpus es fs false h few = lead_few image form limit cpus es fs (lead_from_items image form limit cpus es fs h) few
few_by image form limit cpus es fs true h few = let cut = cut_from_items image form limit cpus es fs h in lead_few image form limit cut.done es fs cut.lead few

pub items_few : (image : Image) (form : Form) (limit : ℕ) (cpus : List ℕ) (es : List Entry) → length es ≤ limit → length (items image form limit cpus es).entries ≤ limit
items_few image form limit cpus es few = few_by image form limit cpus es (items image form limit cpus es).entries (items image form limit cpus es).full refl few

legal_by : (image : Image) (form : Form) (limit : ℕ) (cpus : List ℕ) (es fs : List Entry) (b : Bool) → items image form limit cpus es ≡ reached fs b → IsLegal image form es → IsLegal image form fs
legal_by image form limit cpus es fs false h legal = lead_legal image form limit cpus es fs (lead_from_items image form limit cpus es fs h) legal
legal_by image form limit cpus es fs true h legal = let cut = cut_from_items image form limit cpus es fs h in lead_legal image form limit cut.done es fs cut.lead legal

pub items_legal : (image : Image) (form : Form) (limit : ℕ) (cpus : List ℕ) (es : List Entry) → IsLegal image form es → IsLegal image form (items image form limit cpus es).entries
items_legal image form limit cpus es legal = legal_by image form limit cpus es (items image form limit cpus es).entries (items image form limit cpus es).full refl legal

pub played_legal : (image : Image) (form : Form) (limit : ℕ) (schedule : List ℕ) → IsLegal image form (played image form limit schedule).entries
unfolding played
played_legal image form limit schedule = items_legal image form limit (schedule ++ rounds (limit + 1) (cpus_of image)) [] (IsLegal_nil image form)

-- items that don't end full, in two parts
pub record IsSplit (image : Image) (form : Form) (limit : ℕ) (xs ys : List ℕ) (es fs : List Entry) : Type 0 where
  pub middle : List Entry
  pub first : items image form limit xs es ≡ reached middle false
  pub second : items image form limit ys middle ≡ reached fs false

split_by : (image : Image) (form : Form) (limit : ℕ) (xs ys : List ℕ) (es gs fs : List Entry) (b : Bool) → items image form limit xs es ≡ reached gs b → items image form limit (xs ++ ys) es ≡ reached fs false → IsSplit image form limit xs ys es fs
split_by image form limit xs ys es gs fs false is h = record { middle = gs; first = is; second = sym (items_append image form limit xs ys es gs is) ∙ h }
split_by image form limit xs ys es gs fs true is h = absurd (never_both fs gs (sym h ∙ items_append_full image form limit xs ys es gs is))

items_split : (image : Image) (form : Form) (limit : ℕ) (xs ys : List ℕ) (es fs : List Entry) → items image form limit (xs ++ ys) es ≡ reached fs false → IsSplit image form limit xs ys es fs
items_split image form limit xs ys es fs h = split_by image form limit xs ys es (items image form limit xs es).entries fs (items image form limit xs es).full refl h

-- a round leaves a quiet journal, or makes it longer
round_end : (image : Image) (form : Form) (es fs : List Entry) → ((cpu : ℕ) → IsTrue (is_on_board image cpu) → cpu < 16) → Grows image form (cpus_of image) es fs → IsQuiet image form fs ⊎ (length es < length fs)
round_end image form es fs few (inl same) = let P : List Entry → Type 0 = IsQuiet image form in inl (subst P (sym same.0) (IsQuiet_from_cpus image form es few same.1))
round_end image form es fs few (inr more) = inr more

quiet_stays : (image : Image) (form : Form) (limit : ℕ) (cpus : List ℕ) (es fs : List Entry) → IsQuiet image form es → items image form limit cpus es ≡ reached fs false → IsQuiet image form fs
quiet_stays image form limit cpus es fs quiet h =
    let P : List Entry → Type 0 = IsQuiet image form in
    subst P (ap (λ (r : Reached). r.entries) (sym (items_quiet image form limit cpus es quiet) ∙ h)) quiet

rounds_end : (image : Image) (form : Form) (limit n : ℕ) (es fs : List Entry) → ((cpu : ℕ) → IsTrue (is_on_board image cpu) → cpu < 16) → items image form limit (rounds n (cpus_of image)) es ≡ reached fs false → IsQuiet image form fs ⊎ (length es + n ≤ length fs)
rounds_end image form limit zero es fs few h = let same : length es ≡ length fs = ap (λ (r : Reached). length r.entries) (sym (items_nil image form limit es) ∙ h) in inr (omega arith)
rounds_end image form limit (suc n) es fs few h =
    let cpus = cpus_of image in
    let split : IsSplit image form limit (rounds n cpus) cpus es fs = items_split image form limit (rounds n cpus) cpus es fs h in
    elim (rounds_end image form limit n es split.middle few split.first) [
      | inl quiet ↦ inl (quiet_stays image form limit cpus split.middle fs quiet split.second)
      | inr longer ↦ elim (round_end image form split.middle fs few (items_grows image form limit cpus split.middle fs split.second)) [
        | inl quiet ↦ inl quiet
        | inr more ↦ inr (omega arith)
      ]
    ]

-- a schedule with its rounds, where it doesn't end full
played_by : (image : Image) (form : Form) (limit : ℕ) (schedule : List ℕ) (fs : List Entry) → IsAdmitted image → items image form limit (schedule ++ rounds (limit + 1) (cpus_of image)) [] ≡ reached fs false → IsQuiet image form fs
played_by image form limit schedule fs admitted h =
    let all = rounds (limit + 1) (cpus_of image) in
    let split : IsSplit image form limit schedule all [] fs = items_split image form limit schedule all [] fs h in
    let few : length fs ≤ limit = few_by image form limit (schedule ++ all) [] fs false h (omega arith) in
    elim (rounds_end image form limit (limit + 1) split.middle fs (few_cpus image admitted) split.second) [
      | inl quiet ↦ quiet
      | inr longer ↦ absurd (omega arith)
    ]

pub played_quiet : (image : Image) (form : Form) (limit : ℕ) (schedule : List ℕ) → IsAdmitted image → (played image form limit schedule).full ≡ false → IsQuiet image form (played image form limit schedule).entries
unfolding played
played_quiet image form limit schedule admitted h =
    let r = items image form limit (schedule ++ rounds (limit + 1) (cpus_of image)) [] in
    played_by image form limit schedule r.entries admitted (ap (λ (b : Bool). reached r.entries b) h)

-- and where it does
pub played_full : (image : Image) (form : Form) (limit : ℕ) (schedule : List ℕ) → (played image form limit schedule).full ≡ true → (cpu : ℕ) × IsSome (due image form (played image form limit schedule).entries cpu)
unfolding played
played_full image form limit schedule h =
    let all = schedule ++ rounds (limit + 1) (cpus_of image) in
    let r = items image form limit all [] in
    let cut : IsCutShort image form limit all [] r.entries = cut_from_items image form limit all [] r.entries (ap (λ (b : Bool). reached r.entries b) h) in
    (cut.next, cut.is_due)

pub played_limit : (image : Image) (form : Form) (limit : ℕ) (schedule : List ℕ) → (played image form limit schedule).full ≡ true → length (played image form limit schedule).entries ≡ limit
unfolding played
played_limit image form limit schedule h =
    let all = schedule ++ rounds (limit + 1) (cpus_of image) in
    let r = items image form limit all [] in
    let cut : IsCutShort image form limit all [] r.entries = cut_from_items image form limit all [] r.entries (ap (λ (b : Bool). reached r.entries b) h) in
    let few : length r.entries ≤ limit = items_few image form limit all [] (omega arith) in
    let enough : limit ≤ length r.entries = cut.reached in
    omega arith

-- more rounds change nothing
more_by : (image : Image) (form : Form) (limit k : ℕ) (schedule : List ℕ) (fs : List Entry) (b : Bool) → IsAdmitted image → items image form limit (schedule ++ rounds (limit + 1) (cpus_of image)) [] ≡ reached fs b
    → items image form limit ((schedule ++ rounds (limit + 1) (cpus_of image)) ++ rounds k (cpus_of image)) [] ≡ reached fs b
more_by image form limit k schedule fs false admitted h =
    items_append image form limit (schedule ++ rounds (limit + 1) (cpus_of image)) (rounds k (cpus_of image)) [] fs h
    ∙ items_quiet image form limit (rounds k (cpus_of image)) fs (played_by image form limit schedule fs admitted h)
more_by image form limit k schedule fs true admitted h = items_append_full image form limit (schedule ++ rounds (limit + 1) (cpus_of image)) (rounds k (cpus_of image)) [] fs h

pub played_enough : (image : Image) (form : Form) (limit n : ℕ) (schedule : List ℕ) → IsAdmitted image → limit < n → items image form limit (schedule ++ rounds n (cpus_of image)) [] ≡ played image form limit schedule
unfolding played
played_enough image form limit n schedule admitted lt =
    let cpus = cpus_of image in
    let k = n - (limit + 1) in
    let count : n ≡ (limit + 1) + k = omega arith in
    let r = items image form limit (schedule ++ rounds (limit + 1) cpus) [] in
    ap (λ (m : ℕ). items image form limit (schedule ++ rounds m cpus) []) count
    ∙ ap (λ (xs : List ℕ). items image form limit (schedule ++ xs) []) (rounds_append (limit + 1) k cpus)
    ∙ ap (λ (xs : List ℕ). items image form limit xs []) (sym (append_assoc schedule (rounds (limit + 1) cpus) (rounds k cpus)))
    ∙ more_by image form limit k schedule r.entries r.full admitted refl

-- the numbers below n, in order
below_length : (n : ℕ) → length (below n) ≡ n
below_length zero = refl
below_length (suc n) = let rest : length (below n) ≡ n = below_length n in length_push (below n) n ∙ (let e : length (below n) + 1 ≡ suc n = omega arith in e)

Contains_below : (n k : ℕ) → k < n → Contains (below n) k
Contains_below zero k lt = absurd (omega arith)
Contains_below (suc n) k lt = elim (cases_lt k n) [
  | inl less ↦ Contains-append_left (below n) (n ∷ []) k (Contains_below n k less)
  | inr le ↦ (let same : n ≡ k = omega arith in let P : ℕ → Type 0 = Contains (below n ++ n ∷ []) in subst P same (Contains-append_right (below n) (n ∷ []) n (Contains_head n [])))
]

-- the CPUs of a round are the board's
pub cpus_of_each : (image : Image) (cpu : ℕ) → IsAdmitted image → IsTrue (is_on_board image cpu) → Contains (cpus_of image) cpu
unfolding cpus_of
cpus_of_each image cpu admitted on = Contains_filter (is_on_board image) (below 16) cpu (Contains_below 16 cpu (few_cpus image admitted cpu on)) on

pub cpus_of_board : (image : Image) (cpu : ℕ) → Contains (cpus_of image) cpu → IsTrue (is_on_board image cpu)
unfolding cpus_of
cpus_of_board image cpu held = (IsFound_from_filter (is_on_board image) (below 16) cpu held).passes

below_at : (n k : ℕ) → k < n → get_or (below n) k 0 ≡ k
below_at zero k lt = absurd (omega arith)
below_at (suc n) k lt =
    let count : length (below n) ≡ n = below_length n in
    elim (cases_lt k n) [
      | inl less ↦ get_or_append_left (below n) (n ∷ []) 0 k (omega arith) ∙ below_at n k less
      | inr le ↦ get_or_push (below n) n 0 k (omega arith) ∙ omega arith
    ]

below_rising : (n : ℕ) → IsStrictlyIncreasing (below n)
below_rising n = λ k lt.
    let count : length (below n) ≡ n = below_length n in
    let here : get_or (below n) k 0 ≡ k = below_at n k (omega arith) in
    let next : get_or (below n) (k + 1) 0 ≡ k + 1 = below_at n (k + 1) (omega arith) in
    omega arith

-- in rising order
pub cpus_of_rising : (image : Image) → IsStrictlyIncreasing (cpus_of image)
unfolding cpus_of
cpus_of_rising image = IsStrictlyIncreasing-filter (is_on_board image) (below 16) (below_rising 16)
