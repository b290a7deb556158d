-- One free page more, and one less.
use Rattle.std.proofs.Common.{◌≡◌, ℕ, ◌+◌, ◌<◌, ◌≤◌, ◌⊎◌, inl, inr, true, false, eqb, List, [], ◌∷◌, ◌++◌, length, length-append, arith, sym, subst, ◌∙◌, append-nil}
use Rattle.std.specs.List.{list_any}
use Rattle.std.specs.Prelude.{Option, Some, None, IfSome, option_to_list}
use Rattle.std.proofs.lemmas.Bool.{cases_eq}
use Rattle.jh_pool.specs.Pages.{IsPageIn, IsTakenPage}
use Rattle.jh_pool.specs.SoundPool.{often, IsSoundPool}
use Rattle.jh_pool.proofs.ListLemmas.{often_same, often_other, none_from_any, any_from_none, any_from_often, any_alike}
use Rattle.jh_pool.proofs.CountLemmas.{few_pages}
use Rattle.jh_pool.proofs.OpenLemmas.{next_by_cases, once_by_cases}

pub more_stands : (base n capacity capacity' page : ℕ) (free : List ℕ) → capacity ≤ capacity' → IsPageIn base n page → list_any (λ x. eqb x page) free ≡ false → IsSoundPool base n free capacity → IsSoundPool base n (free ++ page ∷ []) capacity'
more_stands base n capacity capacity' page free more at taken stands =
    let room : n ≤ capacity = stands.room in
    let none : often page free ≡ 0 = none_from_any page free taken in
    let pages : (q : ℕ) → 0 < often q (free ++ page ∷ []) → IsPageIn base n q = λ q some. next_by_cases (λ z. IsPageIn base n z) q page free (stands.pages q) at (cases_eq q page) some in
    let once : (q : ℕ) → often q (free ++ page ∷ []) ≤ 1 = λ q. once_by_cases q page free (stands.once q) none (cases_eq q page) in
    record { aligned = stands.aligned; place = stands.place; pages = pages; once = once; few = few_pages base n (free ++ page ∷ []) stands.aligned pages once; room = omega arith }

pub more_fits : (base n capacity page : ℕ) (free : List ℕ) → IsPageIn base n page → list_any (λ x. eqb x page) free ≡ false → IsSoundPool base n free capacity → length free + 1 ≤ n
more_fits base n capacity page free at taken stands =
    let after : IsSoundPool base n (free ++ page ∷ []) capacity = more_stands base n capacity capacity page free (omega arith) at taken stands in
    let few : length (free ++ page ∷ []) ≤ n = after.few in
    let len : length (free ++ page ∷ []) ≡ length free + 1 = length-append free (page ∷ []) in
    omega arith

often_le_by_cases : (q page : ℕ) (free : List ℕ) → (q ≡ page) ⊎ (q ≡ page → ⊥) → often q free ≤ often q (free ++ page ∷ [])
often_le_by_cases q page free (inl e) =
    let same : often page (free ++ page ∷ []) ≡ often page free + 1 = often_same page free in
    subst (λ z. often z free ≤ often z (free ++ page ∷ [])) (sym e) (omega arith)
often_le_by_cases q page free (inr ne) =
    let same : often q (free ++ page ∷ []) ≡ often q free = often_other q free page ne in omega arith

often_le : (q page : ℕ) (free : List ℕ) → often q free ≤ often q (free ++ page ∷ [])
often_le q page free = often_le_by_cases q page free (cases_eq q page)

pub less_stands : (base n capacity page : ℕ) (free : List ℕ) → IsSoundPool base n (free ++ page ∷ []) capacity → IsSoundPool base n free capacity
less_stands base n capacity page free stands =
    let few : length (free ++ page ∷ []) ≤ n = stands.few in
    let len : length (free ++ page ∷ []) ≡ length free + 1 = length-append free (page ∷ []) in
    record {
      aligned = stands.aligned;
      place = stands.place;
      few = omega arith;
      room = stands.room;
      pages = λ q some. stands.pages q (let le : often q free ≤ often q (free ++ page ∷ []) = often_le q page free in omega arith);
      once = λ q. let le : often q free ≤ often q (free ++ page ∷ []) = often_le q page free in let most : often q (free ++ page ∷ []) ≤ 1 = stands.once q in omega arith;
    }

last_often : (page : ℕ) (free : List ℕ) → 0 < often page (free ++ page ∷ [])
last_often page free = let same : often page (free ++ page ∷ []) ≡ often page free + 1 = often_same page free in omega arith

-- the last free page
pub last_in_range : (base n capacity page : ℕ) (free : List ℕ) → IsSoundPool base n (free ++ page ∷ []) capacity → IsPageIn base n page
last_in_range base n capacity page free stands = stands.pages page (last_often page free)

pub last_free : (page : ℕ) (free : List ℕ) → list_any (λ x. eqb x page) (free ++ page ∷ []) ≡ true
last_free page free = any_from_often page (free ++ page ∷ []) (last_often page free)

pub last_once : (base n capacity page : ℕ) (free : List ℕ) → IsSoundPool base n (free ++ page ∷ []) capacity → list_any (λ x. eqb x page) free ≡ false
last_once base n capacity page free stands =
    let same : often page (free ++ page ∷ []) ≡ often page free + 1 = often_same page free in
    let once : often page (free ++ page ∷ []) ≤ 1 = stands.once page in
    any_from_none page free (omega arith)

pub others_free : (q page : ℕ) (free : List ℕ) → (q ≡ page → ⊥) → list_any (λ x. eqb x q) (free ++ page ∷ []) ≡ list_any (λ x. eqb x q) free
others_free q page free ne = any_alike q free (free ++ page ∷ []) (often_other q free page ne)

-- what a pop leaves
pub popped_stands : (base n capacity capacity' : ℕ) (r : Option ℕ) (old new : List ℕ) → capacity' ≡ capacity → old ≡ new ++ option_to_list r → IsSoundPool base n old capacity → IsSoundPool base n new capacity'
popped_stands base n capacity capacity' None old new same e stands = subst (λ z. IsSoundPool base n new z) (sym same) (subst (λ z. IsSoundPool base n z capacity) (e ∙ append-nil new) stands)
popped_stands base n capacity capacity' (Some page) old new same e stands = subst (λ z. IsSoundPool base n new z) (sym same) (less_stands base n capacity page new (subst (λ z. IsSoundPool base n z capacity) e stands))

pub popped_page : (base n capacity : ℕ) (r : Option ℕ) (old new : List ℕ) → old ≡ new ++ option_to_list r → IsSoundPool base n old capacity → IfSome r (λ page. IsPageIn base n page)
popped_page base n capacity None old new e stands = tt
popped_page base n capacity (Some page) old new e stands = last_in_range base n capacity page new (subst (λ z. IsSoundPool base n z capacity) e stands)

pub popped_taken : (base n capacity : ℕ) (r : Option ℕ) (old new : List ℕ) → old ≡ new ++ option_to_list r → IsSoundPool base n old capacity → IfSome r (λ page. IsTakenPage (record { base = base; size = n; free = new }) page)
popped_taken base n capacity None old new e stands = tt
popped_taken base n capacity (Some page) old new e stands =
    let was : IsSoundPool base n (new ++ page ∷ []) capacity = subst (λ z. IsSoundPool base n z capacity) e stands in
    record { in_range = last_in_range base n capacity page new was; taken = last_once base n capacity page new was }

pub popped_free : (r : Option ℕ) (old new : List ℕ) → old ≡ new ++ option_to_list r → IfSome r (λ page. list_any (λ x. eqb x page) old ≡ true)
popped_free None old new e = tt
popped_free (Some page) old new e = subst (λ z. list_any (λ x. eqb x page) z ≡ true) (sym e) (last_free page new)

pub popped_others : (r : Option ℕ) (old new : List ℕ) → old ≡ new ++ option_to_list r → IfSome r (λ page. (q : ℕ) → (q ≡ page → ⊥) → list_any (λ x. eqb x q) new ≡ list_any (λ x. eqb x q) old)
popped_others None old new e = tt
popped_others (Some page) old new e = λ q ne. subst (λ z. list_any (λ x. eqb x q) new ≡ list_any (λ x. eqb x q) z) (sym e) (sym (others_free q page new ne))
