-- What a list of ranges says of the bytes of one more.
use Rattle.std.proofs.Common.{◌≡◌, ℕ, ◌+◌, ◌<◌, ◌≤◌, suc, max, Bool, true, false, ◌&&◌, ◌||◌, leb, ltb, List, length, get_or, take, drop, sym, refl, ap, ◌∙◌, ⊎_elim, arith, IsTrue, ◌↔◌}
use Rattle.std.specs.List.{list_any}
use Rattle.std.proofs.lemmas.Bool.{cases_lt, leb-true, ltb-true, le-leb, lt-ltb, and_parts, and_from, both_ways}
use Rattle.std.proofs.lemmas.List.{get_or_default}
use Rattle.std.proofs.lemmas.List.Folds.{list_any_at, Any-from_list_any}
use Rattle.jh_num.specs.declared.range.Range.{Range}
use Rattle.jh_num.specs.Bytes.{in_range, has_byte, AreApart}
use Rattle.jh_num.proofs.BytesLemmas.{has_byte_split, above_range, within_range, absent_below, absent_above, not_empty_at, ends_before, AreApartFrom_after, get_or_of_take}

-- the byte after a range isn't in the set
end_absent : (xs : List Range) (k : ℕ) (d : Range) → AreApart xs → k < length xs → has_byte xs (get_or xs k d).end ≡ false
end_absent xs k d a h =
    let x = get_or xs k d in
    let n = not_empty_at 0 xs k d a h in
    has_byte_split xs k d x.end h
    ∙ none (has_byte (take k xs) x.end) (in_range x x.end) (has_byte (drop (suc k) xs) x.end)
    (absent_above (take k xs) x.end (get_or_of_take (λ q. q.end ≤ x.end) xs k (omega arith) (λ k' d' l. let e = ends_before 0 xs k' k d' a l h in let f : (get_or xs k d').start ≡ x.start = ap (λ q. q.start) (get_or_default xs k d' d h) in omega arith)))
    (above_range x x.end (omega arith))
    (absent_below (x.end + 1) (drop (suc k) xs) x.end (AreApartFrom_after 0 k d xs a h) (omega arith))
  where
    none : (t i d : Bool) → t ≡ false → i ≡ false → d ≡ false → (t || (i || d)) ≡ false
    none t i d ht hi hd = rw (ht, hi, hd) refl

in_parts : (x : Range) (b : ℕ) → in_range x b ≡ true → (x.start ≤ b) × (b < x.end)
in_parts x b h = let p = and_parts (leb x.start b) (ltb b x.end) h in (leb-true x.start b p.0, ltb-true b x.end p.1)

-- the range that has a byte of the set
found : (xs : List Range) (b : ℕ) → has_byte xs b ≡ true → (k : ℕ) × (x : Range) × (k < length xs) × (get_or xs k x ≡ x) × (in_range x b ≡ true)
found xs b h = Any-from_list_any (λ (range : Range). in_range range b) xs h

pub meets_decided : (xs : List Range) (r : Range) (t : Bool) → AreApart xs → r.start < r.end → t ≡ list_any (λ (x : Range). ltb x.start r.end && ltb r.start x.end) xs → IsTrue t ↔ ((at : ℕ) × IsTrue (in_range r at && has_byte xs at))
meets_decided xs r t a some e = (there, back)
  where
    p : Range → Bool
    p x = ltb x.start r.end && ltb r.start x.end

    there : IsTrue t → (at : ℕ) × IsTrue (in_range r at && has_byte xs at)
    there h =
        let f = Any-from_list_any (λ (x : Range). ltb x.start r.end && ltb r.start x.end) xs (sym e ∙ h) in
        let k = f.0 in
        let x = f.1 in
        let parts = and_parts (ltb x.start r.end) (ltb r.start x.end) f.4 in
        let low = ltb-true x.start r.end parts.0 in
        let high = ltb-true r.start x.end parts.1 in
        let nonempty : x.start < x.end = rw (← f.3) (not_empty_at 0 xs k x a f.2).1 in
        let at = max x.start r.start in (
          at,
          and_from (in_range r at) (has_byte xs at) (within_range r at (omega arith) (omega arith))
              (list_any_at (λ (range : Range). in_range range at) xs k x f.2 (rw f.3 (within_range x at (omega arith) (omega arith)))),
        )

    back : (at : ℕ) × IsTrue (in_range r at && has_byte xs at) → IsTrue t
    back (at, h) =
        let both = and_parts (in_range r at) (has_byte xs at) h in
        let inside = in_parts r at both.0 in
        let f = found xs at both.1 in
        let k = f.0 in
        let x = f.1 in
        let within = in_parts x at f.4 in
        e ∙ list_any_at (λ (x : Range). ltb x.start r.end && ltb r.start x.end) xs k x f.2
        (rw f.3 (and_from (ltb x.start r.end) (ltb r.start x.end) (lt-ltb x.start r.end (omega arith)) (lt-ltb r.start x.end (omega arith))))

pub covers_decided : (xs : List Range) (r : Range) (t : Bool) → AreApart xs → r.start < r.end → t ≡ list_any (λ (x : Range). leb x.start r.start && leb r.end x.end) xs → IsTrue t ↔ ((at : ℕ) → IsTrue (in_range r at) → IsTrue (has_byte xs at))
covers_decided xs r t a some e = (there, back)
  where
    there : IsTrue t → (at : ℕ) → IsTrue (in_range r at) → IsTrue (has_byte xs at)
    there h at i =
        let f = Any-from_list_any (λ (x : Range). leb x.start r.start && leb r.end x.end) xs (sym e ∙ h) in
        let k = f.0 in
        let x = f.1 in
        let parts = and_parts (leb x.start r.start) (leb r.end x.end) f.4 in
        let low = leb-true x.start r.start parts.0 in
        let high = leb-true r.end x.end parts.1 in
        let inside = in_parts r at i in
        list_any_at (λ (range : Range). in_range range at) xs k x f.2 (rw f.3 (within_range x at (omega arith) (omega arith)))

    back : ((at : ℕ) → IsTrue (in_range r at) → IsTrue (has_byte xs at)) → IsTrue t
    back h =
        let f = found xs r.start (h r.start (within_range r r.start (omega arith) some)) in
        let k = f.0 in
        let x = f.1 in
        let within = in_parts x r.start f.4 in
        ⊎_elim
        (λ short.
        let there = h x.end (within_range r x.end (omega arith) short) in
        let absent : has_byte xs x.end ≡ false = rw f.3 at (end_absent xs k x a f.2) in
        absurd (both_ways (has_byte xs x.end) absent there))
        (λ long.
        e ∙ list_any_at (λ (x : Range). leb x.start r.start && leb r.end x.end) xs k x f.2
        (rw f.3 (and_from (leb x.start r.start) (leb r.end x.end) (le-leb x.start r.start within.0) (le-leb r.end x.end long))))
        (cases_lt x.end r.end)
