-- Bytes that are put into a page, byte by byte.
use Rattle.std.proofs.Common.{rules, ◌≡◌, ℕ, ◌+◌, ◌≤◌, ◌∙◌, ap, cond, leb, ltb, List, ◌++◌, length, drop, slice_index}
use Rattle.std.specs.Prelude.{◌&&◌, ◌-◌}
use Rattle.std.proofs.lemmas.List.{places, append-nil, drop_all}
use borrow.Rule.Slice.PartMut.{put_mid}
use Rattle.jh_num.specs.Memory.{stored}

-- bytes over a part of just their number
pub put_stored : (page bytes part old : List ℕ) (at k : ℕ) → part ≡ bytes ++ drop (length bytes) old → length old ≡ length bytes → at + length bytes ≤ length page
    → slice_index (put_mid at (length bytes) page part) k ≡ stored (λ j. slice_index page j) at bytes k
put_stored page bytes part old at k is whole within =
    let same : part ≡ bytes = search (rules, is, append-nil, drop_all) in
    rw same (search (rules, places))

-- a byte of a page that was put over another one, which is known at its place
pub put_over : (byte : ℕ) (f g : ℕ → ℕ) (at : ℕ) (bytes : List ℕ) (k : ℕ) → byte ≡ stored f at bytes k → f k ≡ g k → byte ≡ stored g at bytes k
put_over byte f g at bytes k is same = is ∙ ap (λ (b : ℕ). cond (leb at k && ltb k (at + length bytes)) (slice_index bytes (k - at)) b) same
