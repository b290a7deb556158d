-- Pages that are listed once each, all that are reached among them: the sum of how often each is reached counts all that
-- are.
use Rattle.std.proofs.Common.{◌≡◌, ◌≢◌, ℕ, ◌+◌, ◌-◌, ◌*◌, ◌<◌, ◌≤◌, inl, inr, zero, suc, ◌∙◌, sym, subst, None, List, [], ◌∷◌, Contains, AllPairs, sum_by, arith, refl}
use Rattle.std.proofs.lemmas.Bool.{cases_eq}
use Rattle.std.proofs.lemmas.List.Sums.{sum_by-cons}
use Rattle.jh_desc.specs.declared.descriptor.Descriptor.{Descriptor}
use Rattle.jh_desc.specs.declared.descriptor.Descriptor.TheVariants.{Invalid, Table, Leaf}
use Rattle.jh_desc.specs.Descriptors.{read_of}
use Rattle.jh_num.specs.declared.level.TheConstants.{LAST_LEVEL}
use Rattle.jh_num.specs.Below.{sum_below}
use Rattle.jh_num.proofs.Public.{sum_same, Contains_cases}
use Rattle.jh_walk.specs.Counts.{by_next, unmoved}
use Rattle.jh_walk.specs.Pages.{page_weight, times, pages_reached}
use Rattle.jh_walk.proofs.LiftLemmas.{slot_counts, slot_times, count_more, count_none, next_same, self_times, times_below, times_more, times_none}

-- ---- sums over lists

sum_none : (f : ℕ → ℕ) (xs : List ℕ) → ((q : ℕ) → Contains xs q → f q ≡ 0) → sum_by f xs ≡ 0
sum_none f [] none = refl
sum_none f (x ∷ xs) none =
    let here : f x ≡ 0 = none x (0, omega arith, refl) in
    let rest : sum_by f xs ≡ 0 = sum_none f xs (λ q has. none q (suc has.0, omega (arith, has.1), has.2)) in
    let all : sum_by f (x ∷ xs) ≡ f x + sum_by f xs = sum_by-cons f x xs in omega arith

sum_alike : (f g : ℕ → ℕ) (xs : List ℕ) → ((q : ℕ) → f q ≡ g q) → sum_by f xs ≡ sum_by g xs
sum_alike f g [] same = refl
sum_alike f g (x ∷ xs) same =
    let here : f x ≡ g x = same x in
    let rest : sum_by f xs ≡ sum_by g xs = sum_alike f g xs same in
    let a : sum_by f (x ∷ xs) ≡ f x + sum_by f xs = sum_by-cons f x xs in
    let b : sum_by g (x ∷ xs) ≡ g x + sum_by g xs = sum_by-cons g x xs in omega arith

sum_both : (f g : ℕ → ℕ) (xs : List ℕ) → sum_by f xs + sum_by g xs ≡ sum_by (λ q. f q + g q) xs
sum_both f g [] = refl
sum_both f g (x ∷ xs) =
    let rest : sum_by f xs + sum_by g xs ≡ sum_by (λ q. f q + g q) xs = sum_both f g xs in
    let both : sum_by (λ q. f q + g q) (x ∷ xs) ≡ f x + g x + sum_by (λ q. f q + g q) xs = sum_by-cons (λ q. f q + g q) x xs in
    let a : sum_by f (x ∷ xs) ≡ f x + sum_by f xs = sum_by-cons f x xs in
    let b : sum_by g (x ∷ xs) ≡ g x + sum_by g xs = sum_by-cons g x xs in omega arith

-- a sum of sums is summed the other way round
sum_turned : (m : ℕ) (h : ℕ → ℕ → ℕ) (xs : List ℕ) → sum_by (λ q. sum_below m (h q)) xs ≡ sum_below m (λ i. sum_by (λ q. h q i) xs)
unfolding sum_below
sum_turned zero h xs = sum_none (λ q. sum_below zero (h q)) xs (λ q has. refl)
sum_turned (suc m) h xs =
    let split : sum_by (λ q. sum_below m (h q) + h q m) xs ≡ sum_by (λ q. sum_below m (h q)) xs + sum_by (λ q. h q m) xs = sym (sum_both (λ q. sum_below m (h q)) (λ q. h q m) xs) in
    let rest : sum_by (λ q. sum_below m (h q)) xs ≡ sum_below m (λ i. sum_by (λ q. h q i) xs) = sum_turned m h xs in omega arith

-- ---- one page

apart_head : (x : ℕ) (xs : List ℕ) (q : ℕ) → AllPairs (λ (one other : ℕ). one ≢ other) (x ∷ xs) → Contains xs q → x ≢ q
apart_head x xs q apart has = subst (λ z. x ≢ z) has.2 (apart 0 (suc has.0) q (omega arith) (omega (arith, has.1)))

apart_tail : (x : ℕ) (xs : List ℕ) → AllPairs (λ (one other : ℕ). one ≢ other) (x ∷ xs) → AllPairs (λ (one other : ℕ). one ≢ other) xs
apart_tail x xs apart i j d before below = apart (suc i) (suc j) d (omega arith) (omega arith)

is_weight : (word : ℕ → ℕ) (n t q : ℕ) → t ≡ q → page_weight q word n t ≡ 1
is_weight word n t q e = grind arith

no_weight : (word : ℕ → ℕ) (n t q : ℕ) → t ≢ q → page_weight q word n t ≡ 0
no_weight word n t q ne = grind arith

-- a page that is listed once weighs 1 in all
one_weight : (word : ℕ → ℕ) (n t : ℕ) (xs : List ℕ) → AllPairs (λ (one other : ℕ). one ≢ other) xs → Contains xs t → sum_by (λ q. page_weight q word n t) xs ≡ 1
one_weight word n t [] apart has = absurd (omega (arith, has.1))
one_weight word n t (x ∷ xs) apart has =
    let all : sum_by (λ q. page_weight q word n t) (x ∷ xs) ≡ page_weight x word n t + sum_by (λ q. page_weight q word n t) xs = sum_by-cons (λ q. page_weight q word n t) x xs in
    elim (cases_eq t x) [
      | inl is ↦
          let here : page_weight x word n t ≡ 1 = is_weight word n t x is in
          let rest : sum_by (λ q. page_weight q word n t) xs ≡ 0 = sum_none (λ q. page_weight q word n t) xs (λ q later. no_weight word n t q (λ e. apart_head x xs q apart later (sym is ∙ e))) in omega arith
      | inr not ↦
          let here : page_weight x word n t ≡ 0 = no_weight word n t x not in
          let later : Contains xs t = elim (Contains_cases x xs t has) [ inl e ↦ absurd (not (sym e)) | inr c ↦ c ] in
          let rest : sum_by (λ q. page_weight q word n t) xs ≡ 1 = one_weight word n t xs (apart_tail x xs apart) later in omega arith
    ]

-- ---- all pages

next_sum : (f : ℕ → ℕ → ℕ) (d : Descriptor) (xs : List ℕ) → sum_by (λ q. by_next (f q) d) xs ≡ by_next (λ next. sum_by (λ q. f q next) xs) d
next_sum f Invalid xs = sum_none (λ q. 0) xs (λ q has. refl)
next_sum f (Leaf out rights device) xs = sum_none (λ q. 0) xs (λ q has. refl)
next_sum f (Table next) xs = refl

pub listed_count : (word : ℕ → ℕ) (n t : ℕ) (xs : List ℕ) → AllPairs (λ (one other : ℕ). one ≢ other) xs → ((q : ℕ) → 0 < times word n t q → Contains xs q) → sum_by (times word n t) xs ≡ pages_reached word n t
listed_count word zero t xs apart all =
    sum_none (times word zero t) xs (λ q has. times_none word t q) ∙ sym (count_none unmoved (λ state word n page. 1) word None t)
listed_count word (suc n) t xs apart all =
    let own : sum_by (λ q. page_weight q word n t) xs ≡ 1 = one_weight word n t xs apart (all t (self_times word n t t refl)) in
    let split : sum_by (λ q. page_weight q word n t + sum_below 512 (slot_times word n t q)) xs ≡ sum_by (λ q. page_weight q word n t) xs + sum_by (λ q. sum_below 512 (slot_times word n t q)) xs =
    sym (sum_both (λ q. page_weight q word n t) (λ q. sum_below 512 (slot_times word n t q)) xs) in
    let each : sum_by (times word (suc n) t) xs ≡ sum_by (λ q. page_weight q word n t + sum_below 512 (slot_times word n t q)) xs =
    sum_alike (times word (suc n) t) (λ q. page_weight q word n t + sum_below 512 (slot_times word n t q)) xs (λ q. times_more word n t q) in
    let turned : sum_by (λ q. sum_below 512 (slot_times word n t q)) xs ≡ sum_below 512 (λ i. sum_by (λ q. slot_times word n t q i) xs) = sum_turned 512 (slot_times word n t) xs in
    let slots : sum_below 512 (λ i. sum_by (λ q. slot_times word n t q i) xs) ≡ sum_below 512 (slot_counts unmoved (λ state word n page. 1) word n None t) =
    sum_same 512 (λ i. sum_by (λ q. slot_times word n t q i) xs) (slot_counts unmoved (λ state word n page. 1) word n None t) (λ i lt.
    next_sum (λ q next. times word n next q) (read_of (word (t + 8 * i)) (LAST_LEVEL - n)) xs
    ∙ next_same (λ next. sum_by (λ q. times word n next q) xs) (λ next. pages_reached word n next) (read_of (word (t + 8 * i)) (LAST_LEVEL - n)) (λ next leads.
    listed_count word n next xs apart (λ q some.
    let le : times word n next q ≤ times word (suc n) t q = times_below word n t q i next lt leads in all q (omega arith)))) in
    let more : pages_reached word (suc n) t ≡ 1 + sum_below 512 (slot_counts unmoved (λ state word n page. 1) word n None t) = count_more unmoved (λ state word n page. 1) word n None t in
    omega arith
