-- A change within one page that is reached once changes a sum over all pages by as much.
use Rattle.std.proofs.Common.{◌≡◌, ◌≢◌, ℕ, ◌+◌, ◌-◌, ◌*◌, ◌%◌, ◌<◌, ◌≤◌, inl, inr, zero, suc, ap, ◌∙◌, sym, subst, Option, arith, refl}
use Rattle.jh_desc.specs.Descriptors.{read_of}
use Rattle.jh_num.specs.declared.level.TheConstants.{LAST_LEVEL}
use Rattle.jh_num.specs.Below.{sum_below}
use Rattle.jh_walk.specs.Counts.{by_next, count_from, IsReachedAs, Step, StateWeight}
use Rattle.jh_walk.specs.Pages.{page_weight, times, AreAlikeBut, AreAligned}
use Rattle.jh_desc.specs.declared.descriptor.Descriptor.{Descriptor}
use Rattle.jh_desc.specs.declared.descriptor.Descriptor.TheVariants.{Invalid, Table, Leaf}
use Rattle.jh_num.proofs.Public.{sum_same, sum_moves, term_le, others_none}

-- how much of a sum over all pages the slot of that number leads to
abbrev pub slot_counts : Step → StateWeight → (ℕ → ℕ) → ℕ → Option ℕ → ℕ → ℕ → ℕ
slot_counts step weight word n state page i = by_next (count_from step weight word n (step state n i)) (read_of (word (page + 8 * i)) (LAST_LEVEL - n))

-- how often the slot of that number leads to the page `inner`
abbrev pub slot_times : (ℕ → ℕ) → ℕ → ℕ → ℕ → ℕ → ℕ
slot_times word n page inner i = by_next (λ next. times word n next inner) (read_of (word (page + 8 * i)) (LAST_LEVEL - n))

pub count_more : (step : Step) (w : StateWeight) (word : ℕ → ℕ) (n : ℕ) (s : Option ℕ) (page : ℕ) → count_from step w word (suc n) s page ≡ w s word n page + sum_below 512 (slot_counts step w word n s page)
unfolding count_from
count_more step w word n s page = refl

pub count_none : (step : Step) (w : StateWeight) (word : ℕ → ℕ) (s : Option ℕ) (page : ℕ) → count_from step w word zero s page ≡ 0
unfolding count_from
count_none step w word s page = refl

pub times_more : (word : ℕ → ℕ) (n page q : ℕ) → times word (suc n) page q ≡ page_weight q word n page + sum_below 512 (slot_times word n page q)
unfolding count_from
times_more word n page q = refl

pub times_none : (word : ℕ → ℕ) (page q : ℕ) → times word zero page q ≡ 0
unfolding count_from
times_none word page q = refl

pub next_same : (f g : ℕ → ℕ) (d : Descriptor) → ((next : ℕ) → d ≡ Table next → f next ≡ g next) → by_next f d ≡ by_next g d
next_same f g Invalid e = refl
next_same f g (Leaf out rights device) e = refl
next_same f g (Table next) e = e next refl

pub self_times : (word : ℕ → ℕ) (n page q : ℕ) → page ≡ q → 0 < times word (suc n) page q
self_times word n page q e = rw (times_more word n page q) (grind arith)

other_page : (word : ℕ → ℕ) (n page q : ℕ) → times word (suc n) page q ≡ 0 → page ≢ q
other_page word n page q none e = let some : 0 < times word (suc n) page q = self_times word n page q e in omega arith

ne_from_weight : (page inner : ℕ) (word : ℕ → ℕ) (n : ℕ) → page_weight inner word n page ≡ 0 → page ≢ inner
ne_from_weight page inner word n none e = grind arith

-- what a slot's table counts, the slot counts
pub slot_is : (step : Step) (w : StateWeight) (word : ℕ → ℕ) (n : ℕ) (s : Option ℕ) (page i next : ℕ) → read_of (word (page + 8 * i)) (LAST_LEVEL - n) ≡ Table next → slot_counts step w word n s page i ≡ count_from step w word n (step s n i) next
slot_is step w word n s page i next is = ap (by_next (count_from step w word n (step s n i))) is

pub slot_times_is : (word : ℕ → ℕ) (n page q i next : ℕ) → read_of (word (page + 8 * i)) (LAST_LEVEL - n) ≡ Table next → slot_times word n page q i ≡ times word n next q
slot_times_is word n page q i next is = ap (by_next (λ x. times word n x q)) is

pub slot_times_le : (word : ℕ → ℕ) (n page q i : ℕ) → i < 512 → page_weight q word n page + slot_times word n page q i ≤ times word (suc n) page q
slot_times_le word n page q i lt =
    let term : slot_times word n page q i ≤ sum_below 512 (slot_times word n page q) = term_le 512 (slot_times word n page q) i lt in
    let more : times word (suc n) page q ≡ page_weight q word n page + sum_below 512 (slot_times word n page q) = times_more word n page q in omega arith

-- what is reached from a table that a slot names is reached
pub times_below : (word : ℕ → ℕ) (n page q i next : ℕ) → i < 512 → read_of (word (page + 8 * i)) (LAST_LEVEL - n) ≡ Table next → times word n next q ≤ times word (suc n) page q
times_below word n page q i next lt is =
    let le : page_weight q word n page + slot_times word n page q i ≤ times word (suc n) page q = slot_times_le word n page q i lt in
    let e : slot_times word n page q i ≡ times word n next q = slot_times_is word n page q i next is in omega arith

pub aligned_below : (word : ℕ → ℕ) (n page i next : ℕ) → i < 512 → read_of (word (page + 8 * i)) (LAST_LEVEL - n) ≡ Table next → AreAligned word (suc n) page → AreAligned word n next
aligned_below word n page i next lt is all q some =
    let le : times word n next q ≤ times word (suc n) page q = times_below word n page q i next lt is in all q (omega arith)

none_below : (word : ℕ → ℕ) (n page q i next : ℕ) → read_of (word (page + 8 * i)) (LAST_LEVEL - n) ≡ Table next → slot_times word n page q i ≡ 0 → times word n next q ≡ 0
none_below word n page q i next is none = sym (slot_times_is word n page q i next is) ∙ none

-- where the page isn't reached, nothing changes
pub count_same : (step : Step) (w : StateWeight) (word word' : ℕ → ℕ) (inner : ℕ) → AreAlikeBut inner w word word' → (n : ℕ) (s : Option ℕ) (page : ℕ) → AreAligned word n page → times word n page inner ≡ 0 → count_from step w word' n s page ≡ count_from step w word n s page
count_same step w word word' inner alike zero s page all none = count_none step w word' s page ∙ sym (count_none step w word s page)
count_same step w word word' inner alike (suc n) s page all none =
    let ne : page ≢ inner = other_page word n page inner none in
    let is : page % 4096 ≡ 0 = all page (self_times word n page page refl) in
    let own : w s word' n page ≡ w s word n page = alike.weights s n page is ne in
    let slots : sum_below 512 (slot_counts step w word' n s page) ≡ sum_below 512 (slot_counts step w word n s page) = sum_same 512 (slot_counts step w word' n s page) (slot_counts step w word n s page) (λ i lt.
    ap (λ x. by_next (count_from step w word' n (step s n i)) (read_of x (LAST_LEVEL - n))) (alike.words page i is ne lt)
    ∙ next_same (count_from step w word' n (step s n i)) (count_from step w word n (step s n i)) (read_of (word (page + 8 * i)) (LAST_LEVEL - n)) (λ next leads.
    let le : times word n next inner ≤ times word (suc n) page inner = times_below word n page inner i next lt leads in
    count_same step w word word' inner alike n (step s n i) next (aligned_below word n page i next lt leads all) (omega arith))) in
    count_more step w word' n s page ∙ (ap (λ x. x + sum_below 512 (slot_counts step w word' n s page)) own ∙ (ap (λ x. w s word n page + x) slots ∙ sym (count_more step w word n s page)))

-- a page that is reached in some state counts
pub on_times : (step : Step) (word : ℕ → ℕ) (n : ℕ) (s : Option ℕ) (page m : ℕ) (t : Option ℕ) (inner : ℕ) → IsReachedAs step word n s page m t inner → 0 < times word n page inner
on_times step word zero s page m t inner on = elim on [ ]
on_times step word (suc n) s page m t inner (inl (e, (is, st))) = self_times word n page inner is
on_times step word (suc n) s page m t inner (inr (i, next, (names, on))) =
    let below : 0 < times word n next inner = on_times step word n (step s n i) next m t inner on in
    let le : times word n next inner ≤ times word (suc n) page inner = times_below word n page inner i next names.within names.descriptor in omega arith

-- what moves at a page that is reached once moves as much in all
pub count_moves : (step : Step) (w : StateWeight) (word word' : ℕ → ℕ) (inner m a b : ℕ) (t : Option ℕ) → AreAlikeBut inner w word word' → count_from step w word' m t inner + a ≡ count_from step w word m t inner + b → (n : ℕ) (s : Option ℕ) (page : ℕ) → AreAligned word n page → times word n page inner ≤ 1 → IsReachedAs step word n s page m t inner → count_from step w word' n s page + a ≡ count_from step w word n s page + b
count_moves step w word word' inner m a b t alike moved zero s page all once on = elim on [ ]
count_moves step w word word' inner m a b t alike moved (suc n) s page all once (inl (e, (is, st))) =
    subst (λ z. count_from step w word' z s page + a ≡ count_from step w word z s page + b) (sym e)
    (subst (λ z. count_from step w word' m s z + a ≡ count_from step w word m s z + b) (sym is)
    (subst (λ z. count_from step w word' m z inner + a ≡ count_from step w word m z inner + b) (sym st) moved))
count_moves step w word word' inner m a b t alike moved (suc n) s page all once (inr (i, next, (names, on))) =
    let lt : i < 512 = names.within in
    let leads : read_of (word (page + 8 * i)) (LAST_LEVEL - n) ≡ Table next = names.descriptor in
    let some : 0 < times word n next inner = on_times step word n (step s n i) next m t inner on in
    let e : slot_times word n page inner i ≡ times word n next inner = slot_times_is word n page inner i next leads in
    let le : page_weight inner word n page + slot_times word n page inner i ≤ times word (suc n) page inner = slot_times_le word n page inner i lt in
    let more : times word (suc n) page inner ≡ page_weight inner word n page + sum_below 512 (slot_times word n page inner) = times_more word n page inner in
    let ne : page ≢ inner = ne_from_weight page inner word n (omega arith) in
    let is : page % 4096 ≡ 0 = all page (self_times word n page page refl) in
    let own : w s word' n page ≡ w s word n page = alike.weights s n page is ne in
    let below : count_from step w word' n (step s n i) next + a ≡ count_from step w word n (step s n i) next + b =
    count_moves step w word word' inner m a b t alike moved n (step s n i) next (aligned_below word n page i next lt leads all) (omega arith) on in
    let new : slot_counts step w word' n s page i ≡ count_from step w word' n (step s n i) next =
    ap (λ x. by_next (count_from step w word' n (step s n i)) (read_of x (LAST_LEVEL - n))) (alike.words page i is ne lt) ∙ ap (by_next (count_from step w word' n (step s n i))) leads in
    let old : slot_counts step w word n s page i ≡ count_from step w word n (step s n i) next = slot_is step w word n s page i next leads in
    let here : slot_counts step w word' n s page i + a ≡ slot_counts step w word n s page i + b = omega arith in
    let there : (j : ℕ) → j < 512 → j ≢ i → slot_counts step w word' n s page j ≡ slot_counts step w word n s page j = λ j small other.
    ap (λ x. by_next (count_from step w word' n (step s n j)) (read_of x (LAST_LEVEL - n))) (alike.words page j is ne small)
    ∙ next_same (count_from step w word' n (step s n j)) (count_from step w word n (step s n j)) (read_of (word (page + 8 * j)) (LAST_LEVEL - n)) (λ next' leads'.
    count_same step w word word' inner alike n (step s n j) next' (aligned_below word n page j next' small leads' all)
    (none_below word n page inner j next' leads' (others_none 512 (slot_times word n page inner) i j lt small other (omega arith) (omega arith)))) in
    let slots : sum_below 512 (slot_counts step w word' n s page) + a ≡ sum_below 512 (slot_counts step w word n s page) + b = sum_moves 512 (slot_counts step w word n s page) (slot_counts step w word' n s page) i a b lt here there in
    let x : count_from step w word' (suc n) s page ≡ w s word' n page + sum_below 512 (slot_counts step w word' n s page) = count_more step w word' n s page in
    let y : count_from step w word (suc n) s page ≡ w s word n page + sum_below 512 (slot_counts step w word n s page) = count_more step w word n s page in omega arith
