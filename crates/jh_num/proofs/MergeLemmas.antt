-- Two lists of ranges merged from the back.
use Rattle.std.proofs.Common.{◌≡◌, ℕ, ◌+◌, ◌<◌, ◌≤◌, Bool, true, false, ◌||◌, List, length, get_or, take, drop, sym, refl, ap, ◌∙◌, ⊎_elim, arith}
use Rattle.std.proofs.Math.Bool.{or-true}
use Rattle.std.proofs.lemmas.Bool.{cases_lt}
use Rattle.std.proofs.lemmas.List.{get_or-take, get_or_read, take-take}
use Rattle.std.proofs.lemmas.List.Folds.{list_any_more}
use Rattle.jh_num.specs.declared.range.Range.{Range}
use Rattle.jh_num.specs.Bytes.{in_range, has_byte, AreApart}
use Rattle.jh_num.proofs.BytesLemmas.{ends_before, not_empty_at}
use Rattle.jh_num.proofs.Booleans.{or_comm}
use Rattle.jh_num.proofs.SearchLemmas.{ends_rise}

-- the first i of one list and the first j of the other are still to be merged, and the rest stands from the place `at` on
pub record Merges (xs ys items : List Range) (i j at : ℕ) : Type 0 where
  pub i_bound : i ≤ length xs
  pub j_bound : j ≤ length ys
  pub space : i + j ≤ at
  pub within : at ≤ length items
  pub bytes : (b : ℕ) → (has_byte xs b || has_byte ys b) ≡ ((has_byte (take i xs) b || has_byte (take j ys) b) || has_byte (drop at items) b)
  pub apart : AreApart (drop at items)
  pub xs_ends : (k : ℕ) (d e : Range) → k < i → at < length items → (get_or xs k d).end ≤ (get_or items at e).end
  pub ys_ends : (k : ℕ) (d e : Range) → k < j → at < length items → (get_or ys k d).end ≤ (get_or items at e).end

-- a range is put before those from a place on
pub record Puts (items new : List Range) (at to : ℕ) (x : Range) : Type 0 where
  pub bytes : (b : ℕ) → has_byte (drop to new) b ≡ (in_range x b || has_byte (drop at items) b)
  pub apart : AreApart (drop to new)
  pub first : (d : Range) → x.end ≤ (get_or new to d).end
  pub near : at ≤ to + 1
  pub within : to < length new

pub swapped : (xs ys items : List Range) (i j at : ℕ) → Merges xs ys items i j at → Merges ys xs items j i at
swapped xs ys items i j at h =
    record {
      i_bound = h.j_bound;
      j_bound = h.i_bound;
      space = (let s = h.space in omega arith);
      within = h.within;
      bytes = λ b. or_comm (has_byte ys b) (has_byte xs b) ∙ h.bytes b ∙ ap (λ v. v || has_byte (drop at items) b) (or_comm (has_byte (take i xs) b) (has_byte (take j ys) b));
      apart = h.apart;
      xs_ends = h.ys_ends;
      ys_ends = h.xs_ends;
    }

-- the range that is put, taken out of the test
moved : (t x y m : Bool) → (((t || x) || y) || m) ≡ ((t || y) || (x || m))
moved true x y m = refl
moved false true y m = sym (or-true y)
moved false false y m = refl

pub stepped : (xs ys items new : List Range) (i j at to : ℕ) (x : Range) → AreApart xs → Merges xs ys items (i + 1) j at → x ≡ get_or xs i x
    → ((k : ℕ) (d : Range) → k < j → (get_or ys k d).end ≤ x.end) → Puts items new at to x → Merges xs ys new i j to
stepped xs ys items new i j at to x a h fx later p =
    let within : i < length xs = let e = h.i_bound in omega arith in
    let near = p.near in
    let space = h.space in
    let inside = p.within in
    record {
      i_bound = omega arith;
      j_bound = h.j_bound;
      space = omega arith;
      within = omega arith;
      bytes = λ b.
          let one : has_byte (take (i + 1) xs) b ≡ (has_byte (take i xs) b || in_range x b) =
          list_any_more (λ (r : Range). in_range r b) xs i x within ∙ ap (λ (r : Range). has_byte (take i xs) b || in_range r b) (sym fx) in
          h.bytes b
          ∙ ap (λ v. (v || has_byte (take j ys) b) || has_byte (drop at items) b) one
          ∙ moved (has_byte (take i xs) b) (in_range x b) (has_byte (take j ys) b) (has_byte (drop at items) b)
          ∙ ap (λ v. (has_byte (take i xs) b || has_byte (take j ys) b) || v) (sym (p.bytes b));
      apart = p.apart;
      xs_ends = λ k d e l m.
          let rise = ends_rise xs a k i d (omega arith) within in
          let own : x.end ≡ (get_or xs i d).end = ap (λ (r : Range). r.end) (get_or_read xs i x within fx d) in
          let first = p.first e in
          omega arith;
      ys_ends = λ k d e l m. let less = later k d l in let first = p.first e in omega arith;
    }

-- a range of the list isn't empty
pub own_some : (xs : List Range) (k : ℕ) (x : Range) → AreApart xs → k < length xs → x ≡ get_or xs k x → x.start < x.end
own_some xs k x a l is =
    let some = not_empty_at 0 xs k x a l in
    let start : x.start ≡ (get_or xs k x).start = ap (λ (r : Range). r.start) is in
    let end : x.end ≡ (get_or xs k x).end = ap (λ (r : Range). r.end) is in
    let order = some.1 in
    omega arith

-- it ends where the list's range at its place does
pub own_end : (xs : List Range) (k : ℕ) (x d : Range) → k < length xs → x ≡ get_or xs k x → x.end ≡ (get_or xs k d).end
own_end xs k x d l is = ap (λ (r : Range). r.end) (get_or_read xs k x l is d)

-- what is still to be read stays
pub still_unread : (xs items new : List Range) (i k at : ℕ) → k ≤ i → k ≤ at → take i items ≡ take i xs → take at new ≡ take at items → take k new ≡ take k xs
still_unread xs items new i k at h l unread before =
    sym (take-take k at new l)
    ∙ ap (λ (rs : List Range). take k rs) before
    ∙ take-take k at items l
    ∙ sym (take-take k i items h)
    ∙ ap (λ (rs : List Range). take k rs) unread
    ∙ take-take k i xs h

-- a range that is read is the list's own
pub reads : (xs items : List Range) (i k : ℕ) (d : Range) → k < i → take i items ≡ take i xs → get_or items k d ≡ get_or xs k d
reads xs items i k d l unread = sym (get_or-take i items k d l) ∙ ap (λ (rs : List Range). get_or rs k d) unread ∙ get_or-take i xs k d l
