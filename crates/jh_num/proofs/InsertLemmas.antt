-- A range put into a list of ranges that are apart.
use Rattle.std.proofs.Common.{◌≡◌, ℕ, ◌+◌, ◌<◌, ◌≤◌, suc, min, max, ◌||◌, List, ◌∷◌, ◌++◌, length, get_or, take, drop, sym, refl, ap, ◌∙◌, ⊎_elim, arith}
use Rattle.std.proofs.lemmas.Bool.{cases_lt}
use Rattle.std.proofs.lemmas.List.{get_or_read}
use Rattle.jh_num.specs.declared.range.Range.{Range}
use Rattle.jh_num.specs.Bytes.{in_range, has_byte, AreApartFrom, AreApart}
use Rattle.jh_num.proofs.BytesLemmas.{has_byte_append, below_range, above_range, within_range, AreApartFrom_take, absent_below, absent_above, not_empty_at, ends_before, AreApartFrom_from, AreApartFrom_after, AreApartFrom_append, has_byte_split_at, has_byte_cut, get_or_of_take, or_true_middle, low_bytes, high_bytes, same_byte}
use Rattle.jh_num.proofs.Booleans.{or_swap}

-- the new list has the bytes of the old one and of the range, and is apart
pub record Inserted (xs ys : List Range) (r : Range) : Type 0 where
  pub bytes : (b : ℕ) → has_byte ys b ≡ (has_byte xs b || in_range r b)
  pub apart : AreApart ys

-- which of the ranges reach the new one: those from `at` up to `upto`
pub record Reaches (xs : List Range) (r : Range) (at upto : ℕ) : Type 0 where
  pub apart : AreApart xs
  pub some : r.start < r.end
  pub at_bound : at ≤ length xs
  pub upto_bound : upto ≤ length xs
  pub before : (k : ℕ) (d : Range) → k < at → (get_or xs k d).end < r.start
  pub at_end : (d : Range) → at < length xs → r.start ≤ (get_or xs at d).end
  pub by : (k : ℕ) (d : Range) → k < upto → (get_or xs k d).start ≤ r.end
  pub upto_start : (d : Range) → upto < length xs → r.end < (get_or xs upto d).start

-- the range that covers the new one and those that reach it
pub record Covers (xs : List Range) (r m x y : Range) (at upto last : ℕ) : Type 0 where
  pub some : at < upto
  pub last_is : upto ≡ suc last
  pub first : x ≡ get_or xs at x
  pub final : y ≡ get_or xs last y
  pub start : m.start ≡ min r.start x.start
  pub end : m.end ≡ max r.end y.end

bytes_over : (xs : List Range) (r m x y : Range) (at upto last : ℕ) → Reaches xs r at upto → Covers xs r m x y at upto last → (b : ℕ) → has_byte (take at xs ++ m ∷ drop upto xs) b ≡ (has_byte xs b || in_range r b)
bytes_over xs r m x y at upto last h k b =
    let tail : AreApartFrom (r.end + 1) (drop upto xs) = AreApartFrom_from 0 (r.end + 1) upto xs h.apart (λ d l. let e = h.upto_start d l in omega arith) in
    let at_in : at < length xs = let e = k.some in let f = h.upto_bound in omega arith in
    let last_in : last < length xs = let e = k.last_is in let f = h.upto_bound in omega arith in
    let front : (k' : ℕ) (d : Range) → k' < length (take at xs) → (get_or (take at xs) k' d).end < r.start = get_or_of_take (λ q. q.end < r.start) xs at h.at_bound h.before in
    has_byte_append (take at xs) (m ∷ drop upto xs) b ∙
    ⊎_elim
    (λ low.
    let after = AreApartFrom_after 0 at x xs h.apart at_in in
    let reach : r.start ≤ (get_or xs at x).end = h.at_end x at_in in
    let fx = k.first in
    let fs = k.start in
    let fe = k.end in
    let some = h.some in
    let xe : r.start ≤ x.end = rw fx reach in
    low_bytes (has_byte (take at xs) b) (in_range m b) (has_byte (drop upto xs) b) (in_range (get_or xs at x) b) (has_byte (drop (suc at) xs) b) (in_range r b)
    (absent_below (r.end + 1) (drop upto xs) b tail (omega arith))
    (absent_below ((get_or xs at x).end + 1) (drop (suc at) xs) b after (omega arith))
    (below_range r b low)
    (rw (← fx) (same_byte m x b (λ i. omega arith) (λ i. omega arith) (λ i. omega arith) (λ i. omega arith)))
    ∙ ap (λ v. v || in_range r b) (sym (has_byte_split_at xs at (suc at) x b refl at_in)))
    (λ high. ⊎_elim
    (λ inside.
    rw (within_range m b (omega arith) (omega arith), within_range r b high inside)
    (or_true_middle (has_byte (take at xs) b) (has_byte (drop upto xs) b) (has_byte xs b)))
    (λ past.
    let fy = k.final in
    let nonempty = not_empty_at 0 xs last y h.apart last_in in
    let start : y.start ≤ r.end = rw fy (h.by last y (let e = k.last_is in omega arith)) in
    let heads : (k' : ℕ) (d : Range) → k' < length (take last xs) → (get_or (take last xs) k' d).end ≤ b =
    get_or_of_take (λ q. q.end ≤ b) xs last (omega arith) (λ k' d l. let e : (get_or xs k' d).end < (get_or xs last d).start = ends_before 0 xs k' last d h.apart l last_in in let f : get_or xs last d ≡ y = sym (get_or_read xs last y last_in fy d) in let g : (get_or xs k' d).end < y.start = rw (← f) e in omega arith) in
    high_bytes (has_byte (take at xs) b) (in_range m b) (has_byte (drop upto xs) b) (in_range (get_or xs last y) b) (has_byte (take last xs) b) (in_range r b)
    (absent_above (take at xs) b (λ k' d l. let e = front k' d l in omega arith))
    (absent_above (take last xs) b heads)
    (above_range r b past)
    (rw (← fy) (same_byte m y b (λ i. omega arith) (λ i. omega arith) (λ i. omega arith) (λ i. omega arith)))
    ∙ ap (λ v. v || in_range r b) (sym (has_byte_split_at xs last upto y b k.last_is last_in)))
    (cases_lt b r.end))
    (cases_lt b r.start)

apart_over : (xs : List Range) (r m x y : Range) (at upto last : ℕ) → Reaches xs r at upto → Covers xs r m x y at upto last → AreApart (take at xs ++ m ∷ drop upto xs)
apart_over xs r m x y at upto last h k =
    let at_in : at < length xs = let e = k.some in let f = h.upto_bound in omega arith in
    let last_in : last < length xs = let e = k.last_is in let f = h.upto_bound in omega arith in
    let fx = k.first in
    let fy = k.final in
    let some = h.some in
    let before : (k' : ℕ) (d : Range) → k' < length (take at xs) → (get_or (take at xs) k' d).end < m.start =
    get_or_of_take (λ q. q.end < m.start) xs at h.at_bound (λ k' d l. let e : (get_or xs k' d).end < (get_or xs at d).start = ends_before 0 xs k' at d h.apart l at_in in let f : get_or xs at d ≡ x = sym (get_or_read xs at x at_in fx d) in let g : (get_or xs k' d).end < x.start = rw (← f) e in let b = h.before k' d l in omega arith) in
    AreApartFrom_append 0 m.start (take at xs) (m ∷ drop upto xs) (omega arith) (AreApartFrom_take 0 at xs h.apart) before (
      omega arith,
      omega arith,
      AreApartFrom_from 0 (m.end + 1) upto xs h.apart
          (λ d l. let e : (get_or xs last d).end < (get_or xs upto d).start = ends_before 0 xs last upto d h.apart (omega arith) l in let f : get_or xs last d ≡ y = sym (get_or_read xs last y last_in fy d) in let g : y.end < (get_or xs upto d).start = rw (← f) e in let b = h.upto_start d l in omega arith),
    )

pub inserted_over : (xs : List Range) (r m x y : Range) (at upto last : ℕ) → Reaches xs r at upto → Covers xs r m x y at upto last → Inserted xs (take at xs ++ m ∷ drop upto xs) r
inserted_over xs r m x y at upto last h k =
    record { bytes = bytes_over xs r m x y at upto last h k; apart = apart_over xs r m x y at upto last h k }

-- where no range reaches the new one
beside : (xs : List Range) (r : Range) (at upto : ℕ) → Reaches xs r at upto → upto ≤ at → AreApartFrom (r.end + 1) (drop at xs)
beside xs r at upto h e =
    AreApartFrom_from 0 (r.end + 1) at xs h.apart (λ d l.
    let u = h.upto_start d (omega arith) in
    ⊎_elim
    (λ less. let b = ends_before 0 xs upto at d h.apart less l in let n = not_empty_at 0 xs upto d h.apart (omega arith) in omega arith)
    (λ more. let same : at ≡ upto = omega arith in let start : r.end < (get_or xs at d).start = rw same u in omega arith)
    (cases_lt upto at))

pub inserted_beside : (xs : List Range) (r : Range) (at upto : ℕ) → Reaches xs r at upto → upto ≤ at → Inserted xs (take at xs ++ r ∷ drop at xs) r
inserted_beside xs r at upto h e =
    let front : (k' : ℕ) (d : Range) → k' < length (take at xs) → (get_or (take at xs) k' d).end < r.start = get_or_of_take (λ q. q.end < r.start) xs at h.at_bound h.before in
    record {
      bytes = λ b. has_byte_append (take at xs) (r ∷ drop at xs) b ∙ or_swap (has_byte (take at xs) b) (in_range r b) (has_byte (drop at xs) b) ∙ ap (λ v. v || in_range r b) (sym (has_byte_cut xs at b));
      apart = AreApartFrom_append 0 r.start (take at xs) (r ∷ drop at xs) (omega arith) (AreApartFrom_take 0 at xs h.apart) front (omega arith, h.some, beside xs r at upto h e);
    }
