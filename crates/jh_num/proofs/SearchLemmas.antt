-- Ranges that are apart: starts and ends rise, and one range tells whether another is met or covered.
use Rattle.std.proofs.Common.{◌≡◌, ℕ, ◌+◌, ◌<◌, ◌≤◌, Bool, false, ◌&&◌, leb, ltb, List, length, get_or, sym, ◌∙◌, ⊎_elim, arith}
use Rattle.std.specs.List.{list_any}
use Rattle.std.specs.List.Sorted.{IsNonDecreasingBy}
use Rattle.std.proofs.lemmas.Bool.{cases_lt, lt-ltb, le-ltb, le-leb, lt-leb, and_from, and_left, and_right}
use Rattle.std.proofs.lemmas.List.{get_or_default}
use Rattle.std.proofs.lemmas.List.Folds.{list_any_at, list_any_none}
use Rattle.jh_num.specs.declared.range.Range.{Range}
use Rattle.jh_num.specs.Bytes.{AreApart}
use Rattle.jh_num.proofs.BytesLemmas.{not_empty_at, ends_before}

-- both ends rise
pub starts_rise : (xs : List Range) → AreApart xs → IsNonDecreasingBy (λ (x : Range). x.start) xs
starts_rise xs a i j d le within =
    ⊎_elim
    (λ (before : i < j).
    let e = ends_before 0 xs i j d a before within in
    let n = not_empty_at 0 xs i d a (omega arith) in omega arith)
    (λ (after : j ≤ i). let same : i ≡ j = omega arith in rw same (omega arith))
    (cases_lt i j)

pub ends_rise : (xs : List Range) → AreApart xs → IsNonDecreasingBy (λ (x : Range). x.end) xs
ends_rise xs a i j d le within =
    ⊎_elim
    (λ (before : i < j).
    let e = ends_before 0 xs i j d a before within in
    let n = not_empty_at 0 xs j d a within in omega arith)
    (λ (after : j ≤ i). let same : i ≡ j = omega arith in rw same (omega arith))
    (cases_lt i j)

abbrev meets : Range → Range → Bool
meets r x = ltb x.start r.end && ltb r.start x.end

abbrev covers : Range → Range → Bool
covers r x = leb x.start r.start && leb r.end x.end

-- where the first range that ends behind the start of `r` starts late, none meets it
no_meeting : (xs : List Range) (r : Range) (at : ℕ) → AreApart xs → ((k : ℕ) (d : Range) → k < at → (get_or xs k d).end < r.start + 1) → ((d : Range) → at < length xs → r.end ≤ (get_or xs at d).start) → list_any (meets r) xs ≡ false
no_meeting xs r at a before after =
    list_any_none (meets r) xs (λ k d within.
    let x = get_or xs k d in
    ⊎_elim
    (λ (low : k < at). and_right (ltb x.start r.end) (ltb r.start x.end) (le-ltb r.start x.end (let e = before k d low in omega arith)))
    (λ (high : at ≤ k). and_left (ltb x.start r.end) (ltb r.start x.end) (le-ltb x.start r.end
    (let e = after d (omega arith) in
    let rise : (get_or xs at d).start ≤ x.start = starts_rise xs a at k d high within in omega arith)))
    (cases_lt k at))

-- so that range tells whether one does, and where there is none, none does
pub meets_first : (xs : List Range) (r : Range) (at : ℕ) (d : Range) → AreApart xs → at < length xs → ((k : ℕ) (d : Range) → k < at → (get_or xs k d).end < r.start + 1) → ((d : Range) → at < length xs → r.start + 1 ≤ (get_or xs at d).end) → ltb (get_or xs at d).start r.end ≡ list_any (meets r) xs
meets_first xs r at d a within before behind =
    let x = get_or xs at d in
    let b = behind d within in
    ⊎_elim
    (λ (early : x.start < r.end). lt-ltb x.start r.end early ∙ sym (list_any_at (meets r) xs at d within (and_from (ltb x.start r.end) (ltb r.start x.end) (lt-ltb x.start r.end early) (lt-ltb r.start x.end (omega arith)))))
    (λ (late : r.end ≤ x.start). le-ltb x.start r.end late ∙ sym (no_meeting xs r at a before (λ d' w. let e : get_or xs at d ≡ get_or xs at d' = get_or_default xs at d d' within in rw (← e) late)))
    (cases_lt x.start r.end)

pub meets_past : (xs : List Range) (r : Range) (at : ℕ) → AreApart xs → length xs ≤ at → ((k : ℕ) (d : Range) → k < at → (get_or xs k d).end < r.start + 1) → ltb at (length xs) ≡ list_any (meets r) xs
meets_past xs r at a past before = le-ltb at (length xs) past ∙ sym (no_meeting xs r at a before (λ d w. absurd (omega arith)))

-- where the first range that ends where `r` does or later starts behind its start, none covers it
no_cover : (xs : List Range) (r : Range) (at : ℕ) → AreApart xs → ((k : ℕ) (d : Range) → k < at → (get_or xs k d).end < r.end) → ((d : Range) → at < length xs → r.start < (get_or xs at d).start) → list_any (covers r) xs ≡ false
no_cover xs r at a before after =
    list_any_none (covers r) xs (λ k d within.
    let x = get_or xs k d in
    ⊎_elim
    (λ (low : k < at). and_right (leb x.start r.start) (leb r.end x.end) (lt-leb r.end x.end (before k d low)))
    (λ (high : at ≤ k). and_left (leb x.start r.start) (leb r.end x.end) (lt-leb x.start r.start
    (let e = after d (omega arith) in
    let rise : (get_or xs at d).start ≤ x.start = starts_rise xs a at k d high within in omega arith)))
    (cases_lt k at))

pub covers_first : (xs : List Range) (r : Range) (at : ℕ) (d : Range) → AreApart xs → at < length xs → ((k : ℕ) (d : Range) → k < at → (get_or xs k d).end < r.end) → ((d : Range) → at < length xs → r.end ≤ (get_or xs at d).end) → leb (get_or xs at d).start r.start ≡ list_any (covers r) xs
covers_first xs r at d a within before behind =
    let x = get_or xs at d in
    ⊎_elim
    (λ (late : r.start < x.start). lt-leb x.start r.start late ∙ sym (no_cover xs r at a before (λ d' w. let e : get_or xs at d ≡ get_or xs at d' = get_or_default xs at d d' within in rw (← e) late)))
    (λ (early : x.start ≤ r.start). le-leb x.start r.start early ∙ sym (list_any_at (covers r) xs at d within (and_from (leb x.start r.start) (leb r.end x.end) (le-leb x.start r.start early) (le-leb r.end x.end (behind d within)))))
    (cases_lt r.start x.start)

pub covers_past : (xs : List Range) (r : Range) (at : ℕ) → AreApart xs → length xs ≤ at → ((k : ℕ) (d : Range) → k < at → (get_or xs k d).end < r.end) → ltb at (length xs) ≡ list_any (covers r) xs
covers_past xs r at a past before = le-ltb at (length xs) past ∙ sym (no_cover xs r at a before (λ d w. absurd (omega arith)))
