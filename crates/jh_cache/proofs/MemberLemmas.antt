-- Which translations a list has after fills and flushes, and that no two are for one page.
use Rattle.std.proofs.Common.{◌≡◌, ℕ, zero, suc, ◌+◌, ◌-◌, ◌<◌, ◌≤◌, ◌⊎◌, ⊎_elim, inl, inr, Bool, true, false, not, cond, eqb, List, [], ◌∷◌, ◌++◌, length, drop, get_or, map, Option, Some, None, refl, sym, ap, subst, ◌∙◌, append_assoc, arith}
use Rattle.std.specs.List.{Contains, find, slice_get}
use Rattle.std.specs.Bool.{IsTrue}
use Rattle.std.proofs.lemmas.Bool.{cases_Bool, cases_lt, and_parts, and_from, eq-eqb, eqb-true, ne_eqb, not-true, not_from_false, false_from_ne_true, both_ways}
use Rattle.std.proofs.lemmas.List.{drop-append-le, length-append, length-drop}
use Rattle.std.proofs.lemmas.List.Elements.{Contains-append_cases, Contains-append_left, filter-append}
use Rattle.jh_num.proofs.Public.{Contains_cases, Contains_filter, Contains_head, Contains_tail, IsFound_from_filter, filter_all, find_None, find_nothing}
use Rattle.jh_cache.specs.declared.translation.Translation.{Translation}
use Rattle.jh_cache.specs.Translations.{is_for, looked, without, newest, filled, flushed, AreApart, IsHeld}
use Rattle.jh_cache.proofs.ListLemmas.{find_drop, find_more, filter_few, filter_fewer, mapped_at, newest_few, none_tail}
use Rattle.jh_cache.proofs.LawLemmas.{filled_full, hit_in, none_stays}

-- what is left of a list was there
drop_among : {X : Type 0} (n : ℕ) (xs : List X) (x : X) → Contains (drop n xs) x → Contains xs x
drop_among zero xs x h = h
drop_among (suc n) [] x h = h
drop_among (suc n) (y ∷ ys) x h = Contains_tail y ys x (drop_among n ys x h)

pub filled_adds : (t : Translation) (list : List Translation) (x : Translation) → Contains (filled t list) x → (x ≡ t) ⊎ Contains list x
filled_adds t list x h =
    let rest = without (is_for t.tag t.page) list in
    ⊎_elim
    (λ (kept : Contains (newest 63 rest) x). inr (IsFound_from_filter (λ y. not (is_for t.tag t.page y)) list x (drop_among (length rest - 63) rest x kept)).among)
    (λ (last : Contains (t ∷ []) x). ⊎_elim (λ (same : t ≡ x). inl (sym same)) (λ (past : Contains [] x). absurd (omega (arith, past.1))) (Contains_cases t [] x last))
    (Contains-append_cases (newest 63 rest) (t ∷ []) x h)

-- where no fewer are left, none was taken out
none_gone_by : (p : Translation → Bool) (list : List Translation) (o : Option Translation) → find p list ≡ o → length list ≤ length (without p list) → find p list ≡ None
none_gone_by p list None e le = e
none_gone_by p list (Some y) e le =
    let fewer : length (without p list) + 1 ≤ length list = filter_fewer p list (λ none. let no : None ≡ Some y = sym none ∙ e in cc) in
    absurd (omega arith)

-- a list of 64 of which none is for the new one's page loses its first
full_keeps : (t : Translation) (list : List Translation) (x : Translation) → length list ≡ 64 → find (is_for t.tag t.page) list ≡ None → Contains list x → Contains (filled t list) x ⊎ (slice_get list 0 ≡ Some x)
full_keeps t [] x full none h = absurd (omega arith)
full_keeps t (oldest ∷ list) x full none h =
    let few : length list ≡ 63 = omega arith in
    ⊎_elim
    (λ (same : oldest ≡ x). inr (ap Some same))
    (λ (later : Contains list x). inl (subst (λ (l : List Translation). Contains l x) (sym (filled_full t oldest list few (ap hit_in none))) (Contains-append_left list (t ∷ []) x later)))
    (Contains_cases oldest list x h)

abbrev Kept : Translation → List Translation → Translation → Type 0
Kept t list x = Contains (filled t list) x ⊎ (IsTrue (is_for t.tag t.page x) ⊎ ((slice_get list 0 ≡ Some x) × (length list ≡ 64) × (looked list t.tag t.page ≡ None)))

others_kept : (t : Translation) (list : List Translation) (x : Translation) → length list ≤ 64 → Contains list x → is_for t.tag t.page x ≡ false → Kept t list x
others_kept t list x most h other =
    let p = is_for t.tag t.page in
    let rest = without p list in
    let kept : Contains rest x = Contains_filter (λ y. not (p y)) list x h (not_from_false (p x) other) in
    let fewer : length rest ≤ length list = filter_few (λ y. not (p y)) list in
    ⊎_elim
    (λ (few : length rest < 64).
    inl (Contains-append_left (newest 63 rest) (t ∷ []) x (subst (λ (l : List Translation). Contains l x) (sym (newest_few rest (omega arith))) kept)))
    (λ (full : 64 ≤ length rest).
    let whole : length list ≡ 64 = omega arith in
    let none : find p list ≡ None = none_gone_by p list (find p list) refl (omega arith) in
    ⊎_elim (λ (new : Contains (filled t list) x). inl new) (λ (first : slice_get list 0 ≡ Some x). inr (inr (first, whole, ap hit_in none))) (full_keeps t list x whole none h))
    (cases_lt (length rest) 64)

pub filled_keeps : (t : Translation) (list : List Translation) (x : Translation) → length list ≤ 64 → Contains list x
    → Contains (filled t list) x ⊎ (IsTrue (is_for t.tag t.page x) ⊎ ((slice_get list 0 ≡ Some x) × (length list ≡ 64) × (looked list t.tag t.page ≡ None)))
filled_keeps t list x most h =
    ⊎_elim (λ (is : is_for t.tag t.page x ≡ true). inr (inl is)) (λ (other : is_for t.tag t.page x ≡ false). others_kept t list x most h other) (cases_Bool (is_for t.tag t.page x))

-- the newest of a list with one more
newest_more : (n : ℕ) (list : List Translation) (t : Translation) → newest (suc n) (list ++ t ∷ []) ≡ newest n list ++ t ∷ []
newest_more n list t =
    let one : length (list ++ t ∷ []) ≡ length list + 1 = length-append list (t ∷ []) in
    let less : length (list ++ t ∷ []) - suc n ≡ length list - n = omega arith in
    ap (λ k. drop k (list ++ t ∷ [])) less ∙ drop-append-le (length list - n) list (t ∷ []) (omega arith)

pub filled_newest : (t : Translation) (list : List Translation) → filled t list ≡ newest 64 (without (is_for t.tag t.page) list ++ t ∷ [])
filled_newest t list = sym (newest_more 63 (without (is_for t.tag t.page) list) t)

-- what is for a page is for that of any other that is
same_page : (tag page : ℕ) (y z : Translation) → is_for tag page y ≡ true → is_for tag page z ≡ true → is_for y.tag y.page z ≡ true
same_page tag page y z is too =
    let a = and_parts (eqb y.tag tag) (eqb y.page page) is in
    let b = and_parts (eqb z.tag tag) (eqb z.page page) too in
    let tags : z.tag ≡ y.tag = eqb-true z.tag tag b.0 ∙ sym (eqb-true y.tag tag a.0) in
    let pages : z.page ≡ y.page = eqb-true z.page page b.1 ∙ sym (eqb-true y.page page a.1) in
    and_from (eqb z.tag y.tag) (eqb z.page y.page) (eq-eqb z.tag y.tag tags) (eq-eqb z.page y.page pages)

for_flipped : (x t : Translation) → is_for t.tag t.page x ≡ false → is_for x.tag x.page t ≡ false
for_flipped x t other =
    false_from_ne_true (is_for x.tag x.page t) (λ is.
    let a = and_parts (eqb t.tag x.tag) (eqb t.page x.page) is in
    both_ways (is_for t.tag t.page x) other (and_from (eqb x.tag t.tag) (eqb x.page t.page) (eq-eqb x.tag t.tag (sym (eqb-true t.tag x.tag a.0))) (eq-eqb x.page t.page (sym (eqb-true t.page x.page a.1)))))

-- a filter and a drop keep translations apart
apart_cons : (b : Bool) (x : Translation) (list : List Translation) → find (is_for x.tag x.page) list ≡ None → AreApart list → AreApart (cond b (x ∷ list) list)
apart_cons true x list none apart = (none, apart)
apart_cons false x list none apart = apart

pub apart_without : (p : Translation → Bool) (list : List Translation) → AreApart list → AreApart (without p list)
apart_without p [] apart = tt
apart_without p (x ∷ list) apart =
    apart_cons (not (p x)) x (without p list)
    (find_nothing (is_for x.tag x.page) (without p list) (λ y held. find_None (is_for x.tag x.page) list y apart.0 (IsFound_from_filter (λ z. not (p z)) list y held).among))
    (apart_without p list apart.1)

apart_drop : (n : ℕ) (list : List Translation) → AreApart list → AreApart (drop n list)
apart_drop zero list apart = apart
apart_drop (suc n) [] apart = apart
apart_drop (suc n) (x ∷ list) apart = apart_drop n list apart.1

apart_more : (list : List Translation) (t : Translation) → AreApart list → find (is_for t.tag t.page) list ≡ None → AreApart (list ++ t ∷ [])
apart_more [] t apart none = (refl, tt)
apart_more (x ∷ list) t apart none =
    let other : is_for t.tag t.page x ≡ false = find_None (is_for t.tag t.page) (x ∷ list) x none (Contains_head x list) in
    (find_more (is_for x.tag x.page) list t (for_flipped x t other) ∙ apart.0, apart_more list t apart.1 (none_tail (is_for t.tag t.page x) x (find (is_for t.tag t.page) list) none))

pub filled_apart : (t : Translation) (list : List Translation) → AreApart list → AreApart (filled t list)
filled_apart t list apart =
    let p = is_for t.tag t.page in
    let rest = without p list in
    apart_more (newest 63 rest) t (apart_drop (length rest - 63) rest (apart_without p list apart)) (find_drop p (length rest - 63) rest (none_stays p p list (λ x kept. kept)))

-- at most one of a list is for a page
one_by : (tag page : ℕ) (y : Translation) (list : List Translation) (b : Bool) → is_for tag page y ≡ b → find (is_for y.tag y.page) list ≡ None
    → length list ≤ length (without (is_for tag page) list) + 1 → suc (length list) ≤ length (cond (not b) (y ∷ without (is_for tag page) list) (without (is_for tag page) list)) + 1
one_by tag page y list true is none most =
    let all : without (is_for tag page) list ≡ list = filter_all (λ z. not (is_for tag page z)) list (λ z held.
    not_from_false (is_for tag page z) (false_from_ne_true (is_for tag page z) (λ too. both_ways (is_for y.tag y.page z) (find_None (is_for y.tag y.page) list z none held) (same_page tag page y z is too)))) in
    let same : length (without (is_for tag page) list) ≡ length list = ap length all in
    omega arith
one_by tag page y list false is none most = omega arith

one_gone : (tag page : ℕ) (list : List Translation) → AreApart list → length list ≤ length (without (is_for tag page) list) + 1
one_gone tag page [] apart = omega arith
one_gone tag page (y ∷ list) apart = one_by tag page y list (is_for tag page y) refl apart.0 (one_gone tag page list apart.1)

-- the oldest of 64 is gone, whether or not one of the others is taken out
newest_behind_by : (b : Bool) (oldest : Translation) (rest : List Translation) → 62 ≤ length rest → newest 62 rest ≡ newest 62 (cond (not b) (oldest ∷ rest) rest)
newest_behind_by true oldest rest most = refl
newest_behind_by false oldest rest most =
    let e : suc (length rest) - 62 ≡ suc (length rest - 62) = omega arith in
    ap (λ k. drop k (oldest ∷ rest)) (sym e)

newest_behind : (tag page : ℕ) (list : List Translation) → length list ≤ 64 → AreApart list → newest 62 (without (is_for tag page) (newest 63 list)) ≡ newest 62 (without (is_for tag page) list)
newest_behind tag page [] few apart = refl
newest_behind tag page (oldest ∷ rest) few apart =
    ⊎_elim
    (λ (less : length rest < 63). ap (λ (l : List Translation). newest 62 (without (is_for tag page) l)) (newest_few (oldest ∷ rest) (omega arith)))
    (λ (full : 63 ≤ length rest).
    let one : suc (length rest) - 63 ≡ 1 = omega arith in
    let most : length rest ≤ length (without (is_for tag page) rest) + 1 = one_gone tag page rest apart.1 in
    ap (λ k. newest 62 (without (is_for tag page) (drop k (oldest ∷ rest)))) one
    ∙ newest_behind_by (is_for tag page oldest) oldest (without (is_for tag page) rest) (omega arith))
    (cases_lt (length rest) 63)

one_kept : (p : Translation → Bool) (t : Translation) → p t ≡ false → without p (t ∷ []) ≡ t ∷ []
one_kept p t other = rw other refl

pub filled_twice : (t u : Translation) (list : List Translation) → length list ≤ 64 → AreApart list → is_for u.tag u.page t ≡ false
    → filled u (filled t list) ≡ newest 64 (without (is_for u.tag u.page) (without (is_for t.tag t.page) list) ++ t ∷ u ∷ [])
filled_twice t u list few apart other =
    let q = is_for u.tag u.page in
    let rest = without (is_for t.tag t.page) list in
    let fewer : length rest ≤ length list = filter_few (λ x. not (is_for t.tag t.page x)) list in
    let kept : without q (newest 63 rest ++ t ∷ []) ≡ without q (newest 63 rest) ++ t ∷ [] = filter-append (λ x. not (q x)) (newest 63 rest) (t ∷ []) ∙ ap (λ l. without q (newest 63 rest) ++ l) (one_kept q t other) in
    ap (λ l. newest 63 l ++ u ∷ []) kept
    ∙ ap (λ l. l ++ u ∷ []) (newest_more 62 (without q (newest 63 rest)) t
    ∙ ap (λ l. l ++ t ∷ []) (newest_behind u.tag u.page rest (omega arith) (apart_without (is_for t.tag t.page) list apart))
    ∙ sym (newest_more 62 (without q rest) t))
    ∙ sym (newest_more 63 (without q rest ++ t ∷ []) u)
    ∙ ap (newest 64) (append_assoc (without q rest) (t ∷ []) (u ∷ []))

-- what a flush leaves
pub flushed_from : (list : List Translation) (tag : ℕ) (x : Translation) → Contains (flushed tag list) x → (x.tag ≡ tag → ⊥) × Contains list x
flushed_from list tag x h =
    let found = IsFound_from_filter (λ y. not (eqb y.tag tag)) list x h in
    ((λ same. both_ways (eqb x.tag tag) (not-true (eqb x.tag tag) found.passes) (eq-eqb x.tag tag same)), found.among)

pub flushed_to : (list : List Translation) (tag : ℕ) (x : Translation) → (x.tag ≡ tag → ⊥) × Contains list x → Contains (flushed tag list) x
flushed_to list tag x h = Contains_filter (λ y. not (eqb y.tag tag)) list x h.1 (not_from_false (eqb x.tag tag) (ne_eqb x.tag tag h.0))

-- what is filled or flushed can be held
pub filled_held : (t : Translation) (list : List Translation) → IsHeld list → IsHeld (filled t list)
filled_held t list held =
    let rest = newest 63 (without (is_for t.tag t.page) list) in
    let short : length rest ≤ 63 = omega (arith, length-drop (length (without (is_for t.tag t.page) list) - 63) (without (is_for t.tag t.page) list)) in
    let one : length (rest ++ t ∷ []) ≡ length rest + 1 = length-append rest (t ∷ []) in
    record { few = omega arith; apart = filled_apart t list held.apart }

pub one_flushed_held : (list : List Translation) (tag : ℕ) → IsHeld list → IsHeld (flushed tag list)
one_flushed_held list tag held =
    let fewer : length (flushed tag list) ≤ length list = filter_few (λ x. not (eqb x.tag tag)) list in
    let most : length list ≤ 64 = held.few in
    record { few = omega arith; apart = apart_without (λ x. eqb x.tag tag) list held.apart }

pub flushed_held : (lists : List (List Translation)) (tag : ℕ) → ((cpu : ℕ) → IsHeld (get_or lists cpu [])) → (cpu : ℕ) → IsHeld (get_or (map (flushed tag) lists) cpu [])
flushed_held lists tag held cpu = subst IsHeld (sym (mapped_at (flushed tag) lists cpu refl)) (one_flushed_held (get_or lists cpu []) tag (held cpu))
