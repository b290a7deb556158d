-- A range taken out of a list of ranges that are apart.
use Rattle.std.proofs.Common.{◌≡◌, ℕ, ◌+◌, ◌<◌, ◌≤◌, suc, min, max, Bool, true, false, not, ◌&&◌, ◌||◌, List, ◌++◌, length, get_or, take, drop, sym, refl, ap, ◌∙◌, ⊎_elim, arith}
use Rattle.std.proofs.Math.Bool.{and-false, and-true}
use Rattle.std.proofs.lemmas.Bool.{cases_lt}
use Rattle.std.proofs.lemmas.List.{get_or_read}
use Rattle.jh_num.specs.declared.range.Range.{Range}
use Rattle.jh_num.specs.Bytes.{in_range, has_byte, AreApartFrom, AreApart}
use Rattle.jh_num.specs.Private.Pieces.{pieces}
use Rattle.jh_num.proofs.BytesLemmas.{has_byte_append, has_byte_pieces, below_range, above_range, within_range, AreApartFrom_lower, AreApartFrom_take, AreApartFrom_pieces, absent_below, absent_above, not_empty_at, ends_before, AreApartFrom_from, AreApartFrom_after, AreApartFrom_append, has_byte_split_at, has_byte_cut, get_or_of_take, same_byte}

-- the new list has the bytes of the old one that aren't in the range, and is apart
pub record Removed (xs ys : List Range) (r : Range) : Type 0 where
  pub bytes : (b : ℕ) → has_byte ys b ≡ (has_byte xs b && not (in_range r b))
  pub apart : AreApart ys

-- which of the ranges meet the one that goes: those from `at` up to `upto`
pub record Cuts (xs : List Range) (r : Range) (at upto : ℕ) : Type 0 where
  pub apart : AreApart xs
  pub some : r.start < r.end
  pub at_bound : at ≤ length xs
  pub upto_bound : upto ≤ length xs
  pub before : (k : ℕ) (d : Range) → k < at → (get_or xs k d).end ≤ r.start
  pub at_end : (d : Range) → at < length xs → r.start < (get_or xs at d).end
  pub by : (k : ℕ) (d : Range) → k < upto → (get_or xs k d).start < r.end
  pub upto_start : (d : Range) → upto < length xs → r.end ≤ (get_or xs upto d).start

-- what is left of them
pub record Leaves (xs : List Range) (r left right x y : Range) (at upto last : ℕ) : Type 0 where
  pub some : at < upto
  pub last_is : upto ≡ suc last
  pub first : x ≡ get_or xs at x
  pub final : y ≡ get_or xs last y
  pub left_start : left.start ≡ min x.start r.start
  pub left_end : left.end ≡ r.start
  pub right_start : right.start ≡ r.end
  pub right_end : right.end ≡ max y.end r.end

-- the bytes below the range, in it and above it
low_bytes : (t l r d x a i : Bool) → r ≡ false → d ≡ false → a ≡ false → i ≡ false → l ≡ x → (t || (l || (r || d))) ≡ ((t || (x || a)) && not i)
low_bytes t l r d x a i hr hd ha hi e = rw (hr, hd, ha, hi, e) (sym (and-true (t || (x || false))))

mid_bytes : (t l r d x i : Bool) → t ≡ false → l ≡ false → r ≡ false → d ≡ false → i ≡ true → (t || (l || (r || d))) ≡ (x && not i)
mid_bytes t l r d x i ht hl hr hd hi = rw (ht, hl, hr, hd, hi) (sym (and-false x))

high_bytes : (t l r d y b i : Bool) → t ≡ false → l ≡ false → b ≡ false → i ≡ false → r ≡ y → (t || (l || (r || d))) ≡ ((b || (y || d)) && not i)
high_bytes t l r d y b i ht hl hb hi e = rw (ht, hl, hb, hi, e) (sym (and-true (y || d)))

-- a list in four parts
parts : (t l r d : List Range) (b : ℕ) → has_byte (t ++ (l ++ (r ++ d))) b ≡ (has_byte t b || (has_byte l b || (has_byte r b || has_byte d b)))
parts t l r d b =
    has_byte_append t (l ++ (r ++ d)) b
    ∙ ap (λ v. has_byte t b || v) (has_byte_append l (r ++ d) b ∙ ap (λ v. has_byte l b || v) (has_byte_append r d b))

bytes_cut : (xs : List Range) (r left right x y : Range) (at upto last : ℕ) → Cuts xs r at upto → Leaves xs r left right x y at upto last → (b : ℕ) → has_byte (take at xs ++ (pieces left ++ (pieces right ++ drop upto xs))) b ≡ (has_byte xs b && not (in_range r b))
bytes_cut xs r left right x y at upto last h k b =
    let tail : AreApartFrom r.end (drop upto xs) = AreApartFrom_from 0 r.end upto xs h.apart h.upto_start in
    let at_in : at < length xs = let e = k.some in let f = h.upto_bound in omega arith in
    let last_in : last < length xs = let e = k.last_is in let f = h.upto_bound in omega arith in
    let front : (k' : ℕ) (d : Range) → k' < length (take at xs) → (get_or (take at xs) k' d).end ≤ r.start = get_or_of_take (λ q. q.end ≤ r.start) xs at h.at_bound h.before in
    let fx = k.first in
    let fy = k.final in
    let some = h.some in
    parts (take at xs) (pieces left) (pieces right) (drop upto xs) b
    ∙ ap (λ v. has_byte (take at xs) b || (v || (has_byte (pieces right) b || has_byte (drop upto xs) b))) (has_byte_pieces left b)
    ∙ ap (λ v. has_byte (take at xs) b || (in_range left b || (v || has_byte (drop upto xs) b))) (has_byte_pieces right b)
    ∙ ⊎_elim
    (λ low.
    let after = AreApartFrom_after 0 at x xs h.apart at_in in
    let reach : r.start < (get_or xs at x).end = h.at_end x at_in in
    let xe : r.start < x.end = rw fx reach in
    low_bytes (has_byte (take at xs) b) (in_range left b) (in_range right b) (has_byte (drop upto xs) b) (in_range (get_or xs at x) b) (has_byte (drop (suc at) xs) b) (in_range r b)
    (below_range right b (omega arith))
    (absent_below r.end (drop upto xs) b tail (omega arith))
    (absent_below ((get_or xs at x).end + 1) (drop (suc at) xs) b after (omega arith))
    (below_range r b low)
    (rw (← fx) (same_byte left x b (λ i. omega arith) (λ i. omega arith) (λ i. omega arith) (λ i. omega arith)))
    ∙ ap (λ v. v && not (in_range r b)) (sym (has_byte_split_at xs at (suc at) x b refl at_in)))
    (λ high. ⊎_elim
    (λ inside.
    mid_bytes (has_byte (take at xs) b) (in_range left b) (in_range right b) (has_byte (drop upto xs) b) (has_byte xs b) (in_range r b)
    (absent_above (take at xs) b (λ k' d l. let e = front k' d l in omega arith))
    (above_range left b (omega arith))
    (below_range right b (omega arith))
    (absent_below r.end (drop upto xs) b tail inside)
    (within_range r b high inside))
    (λ past.
    let nonempty = not_empty_at 0 xs last y h.apart last_in in
    let start : y.start < r.end = rw fy (h.by last y (let e = k.last_is in omega arith)) in
    let heads : (k' : ℕ) (d : Range) → k' < length (take last xs) → (get_or (take last xs) k' d).end ≤ b =
    get_or_of_take (λ q. q.end ≤ b) xs last (omega arith) (λ k' d l. let e : (get_or xs k' d).end < (get_or xs last d).start = ends_before 0 xs k' last d h.apart l last_in in let f : get_or xs last d ≡ y = sym (get_or_read xs last y last_in fy d) in let g : (get_or xs k' d).end < y.start = rw (← f) e in omega arith) in
    high_bytes (has_byte (take at xs) b) (in_range left b) (in_range right b) (has_byte (drop upto xs) b) (in_range (get_or xs last y) b) (has_byte (take last xs) b) (in_range r b)
    (absent_above (take at xs) b (λ k' d l. let e = front k' d l in omega arith))
    (above_range left b (omega arith))
    (absent_above (take last xs) b heads)
    (above_range r b past)
    (rw (← fy) (same_byte right y b (λ i. omega arith) (λ i. omega arith) (λ i. omega arith) (λ i. omega arith)))
    ∙ ap (λ v. v && not (in_range r b)) (sym (has_byte_split_at xs last upto y b k.last_is last_in)))
    (cases_lt b r.end))
    (cases_lt b r.start)

apart_cut : (xs : List Range) (r left right x y : Range) (at upto last : ℕ) → Cuts xs r at upto → Leaves xs r left right x y at upto last → AreApart (take at xs ++ (pieces left ++ (pieces right ++ drop upto xs)))
apart_cut xs r left right x y at upto last h k =
    let at_in : at < length xs = let e = k.some in let f = h.upto_bound in omega arith in
    let last_in : last < length xs = let e = k.last_is in let f = h.upto_bound in omega arith in
    let fx = k.first in
    let fy = k.final in
    let some = h.some in
    let starts : x.start < r.end = rw fx (h.by at x k.some) in
    let before : (k' : ℕ) (d : Range) → k' < length (take at xs) → (get_or (take at xs) k' d).end < x.start =
    get_or_of_take (λ q. q.end < x.start) xs at h.at_bound (λ k' d l. let e : (get_or xs k' d).end < (get_or xs at d).start = ends_before 0 xs k' at d h.apart l at_in in let f : get_or xs at d ≡ x = sym (get_or_read xs at x at_in fx d) in rw (← f) e) in
    let tail : AreApartFrom r.end (drop upto xs) = AreApartFrom_from 0 r.end upto xs h.apart h.upto_start in
    let past : AreApartFrom (y.end + 1) (drop upto xs) =
    AreApartFrom_from 0 (y.end + 1) upto xs h.apart
    (λ d l. let e : (get_or xs last d).end < (get_or xs upto d).start = ends_before 0 xs last upto d h.apart (omega arith) l in let f : get_or xs last d ≡ y = sym (get_or_read xs last y last_in fy d) in let g : y.end < (get_or xs upto d).start = rw (← f) e in omega arith) in
    let rest : AreApartFrom r.end (pieces right ++ drop upto xs) =
    AreApartFrom_pieces r.end right (drop upto xs) (λ s. omega arith)
    (λ s. let e : right.end ≡ y.end = omega arith in rw e past) tail in
    AreApartFrom_append 0 x.start (take at xs) (pieces left ++ (pieces right ++ drop upto xs)) (omega arith) (AreApartFrom_take 0 at xs h.apart) before
    (AreApartFrom_pieces x.start left (pieces right ++ drop upto xs) (λ s. omega arith)
    (λ s. AreApartFrom_lower r.end (left.end + 1) (pieces right ++ drop upto xs) (omega arith) rest)
    (AreApartFrom_lower r.end x.start (pieces right ++ drop upto xs) (omega arith) rest))

pub removed_cut : (xs : List Range) (r left right x y : Range) (at upto last : ℕ) → Cuts xs r at upto → Leaves xs r left right x y at upto last → Removed xs (take at xs ++ (pieces left ++ (pieces right ++ drop upto xs))) r
removed_cut xs r left right x y at upto last h k =
    record { bytes = bytes_cut xs r left right x y at upto last h k; apart = apart_cut xs r left right x y at upto last h k }

-- where no range meets the one that goes
none_meet : (xs : List Range) (r : Range) (at upto : ℕ) → Cuts xs r at upto → upto ≤ at → AreApartFrom r.end (drop at xs)
none_meet xs r at upto h e =
    AreApartFrom_from 0 r.end at xs h.apart (λ d l.
    let u = h.upto_start d (omega arith) in
    ⊎_elim
    (λ less. let b = ends_before 0 xs upto at d h.apart less l in let n = not_empty_at 0 xs upto d h.apart (omega arith) in omega arith)
    (λ more. let same : at ≡ upto = omega arith in let start : r.end ≤ (get_or xs at d).start = rw same u in start)
    (cases_lt upto at))

pub removed_none : (xs : List Range) (r : Range) (at upto : ℕ) → Cuts xs r at upto → upto ≤ at → (b : ℕ) → has_byte xs b ≡ (has_byte xs b && not (in_range r b))
removed_none xs r at upto h e b =
    let front : (k' : ℕ) (d : Range) → k' < length (take at xs) → (get_or (take at xs) k' d).end ≤ r.start = get_or_of_take (λ q. q.end ≤ r.start) xs at h.at_bound h.before in
    ⊎_elim
    (λ low. kept (has_byte xs b) (in_range r b) (below_range r b low))
    (λ high. ⊎_elim
    (λ inside.
    let none : has_byte xs b ≡ false = has_byte_cut xs at b ∙ both (has_byte (take at xs) b) (has_byte (drop at xs) b) (absent_above (take at xs) b (λ k' d l. let f = front k' d l in omega arith)) (absent_below r.end (drop at xs) b (none_meet xs r at upto h e) inside) in
    none ∙ sym (ap (λ v. v && not (in_range r b)) none))
    (λ past. kept (has_byte xs b) (in_range r b) (above_range r b past))
    (cases_lt b r.end))
    (cases_lt b r.start)
  where
    kept : (v i : Bool) → i ≡ false → v ≡ (v && not i)
    kept v i h = rw h (sym (and-true v))

    both : (v w : Bool) → v ≡ false → w ≡ false → (v || w) ≡ false
    both v w h k = rw (h, k) refl
