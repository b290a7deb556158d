-- Bytes of memory at places.
use Rattle.std.proofs.Common.{◌≡◌, ℕ, zero, suc, ◌+◌, ◌-◌, ◌/◌, ◌%◌, ◌<◌, true, List, [], ◌++◌, Option, sym, ◌∙◌, ap, subst, arith}
use Rattle.std.specs.Prelude.{All, IsSome}
use Rattle.std.specs.List.{AllByRecursion}
use Rattle.std.proofs.lemmas.List.{append-nil}
use Rattle.std.proofs.lemmas.List.Elements.{recursion_from_All, All-from_recursion}
use Rattle.jh_history.specs.declared.place.Place.{Place}
use Rattle.jh_history.specs.declared.place.Place.TheVariants.{Physical, Page}
use Rattle.jh_history.specs.Places.{further, places_in_row, with_byte, written, overlaid}
use Rattle.jh_history.proofs.Public.{further_none, further_next, row_next, written_over}
use Rattle.jh_frames.specs.Memory.{holds}
use Rattle.jh_board.specs.Pages.{byte_of, HoldsPlace, KeepsTables}
use Rattle.jh_edit.specs.declared.stage.Stage2.{Stage2}
use Rattle.jh_board.proofs.PlaceLemmas.{comm_same, own_kept, seats_kept, KeepsSeats}
use Rattle.jh_board.specs.Private.Pages.{MayHold}

pub MayHold_same : (old new : Stage2) → KeepsTables old new → (q : Place) → MayHold old q → MayHold new q
MayHold_same old new same (Physical a) h = (h.0, own_kept old new a (seats_kept old new same) ∙ h.1)
MayHold_same old new same (Page cell offset) h =
    let P : Option ℕ → Type 0 = λ o. IsSome o × (offset < 4096) in subst P (sym (comm_same old new cell (seats_kept old new same))) h

-- what is held stays so where the pages of physical memory do
pub holds_same : (old new : Stage2) → KeepsSeats old new → ((a : ℕ) → holds old.frames a ≡ true → holds new.frames a ≡ true) → (q : Place) → HoldsPlace old q → HoldsPlace new q
holds_same old new seats same (Physical a) h = (h.0, same a h.1, own_kept old new a seats ∙ h.2)
holds_same old new seats same (Page cell offset) h = let P : Option ℕ → Type 0 = λ o. IsSome o × (offset < 4096) in subst P (sym (comm_same old new cell seats)) h

each_of : (Q : Place → Type 0) (p : Place) (count : ℕ) → ((k : ℕ) → k < count → Q (further p k)) → AllByRecursion Q (places_in_row p count)
each_of Q p zero each = tt
each_of Q p (suc count) each = (
  subst Q (further_none p) (each 0 (omega arith)),
  each_of Q (further p 1) count (λ k lt. subst Q (sym (further_next p k)) (each (k + 1) (omega arith))),
)

-- all of a row is so where each of its places is
pub row_of : (Q : Place → Type 0) (p : Place) (count : ℕ) → ((k : ℕ) → k < count → Q (further p k)) → All Q (places_in_row p count)
row_of Q p count each = All-from_recursion Q (places_in_row p count) (each_of Q p count each)

-- so all of a row is held where each of its places is
pub row_held : (pages : Stage2) (p : Place) (count : ℕ) → ((k : ℕ) → k < count → HoldsPlace pages (further p k)) → All (HoldsPlace pages) (places_in_row p count)
row_held pages p count each = row_of (HoldsPlace pages) p count each

-- the k-th place of a row is one of its places
at_place : (Q : Place → Type 0) (p : Place) (count k : ℕ) → k < count → AllByRecursion Q (places_in_row p count) → Q (further p k)
at_place Q p zero k lt all = absurd (omega arith)
at_place Q p (suc count) zero lt all = subst Q (sym (further_none p)) all.0
at_place Q p (suc count) (suc k) lt all = let e : k + 1 ≡ suc k = omega arith in subst Q (further_next p k ∙ ap (further p) e) (at_place Q (further p 1) count k (omega arith) all.1)

pub All_at_place : (Q : Place → Type 0) (p : Place) (count k : ℕ) → k < count → All Q (places_in_row p count) → Q (further p k)
All_at_place Q p count k lt all = at_place Q p count k lt (recursion_from_All Q (places_in_row p count) all)

-- and so stays a row of physical memory where its pages do
pub row_kept : (old new : Stage2) (a count : ℕ) → ((p : ℕ) → HoldsPlace old (Physical p) → HoldsPlace new (Physical p)) → All (HoldsPlace old) (places_in_row (Physical a) count) → All (HoldsPlace new) (places_in_row (Physical a) count)
row_kept old new a count kept all = row_held new (Physical a) count (λ k lt. kept (a + k) (All_at_place (HoldsPlace old) (Physical a) count k lt all))

-- one byte of a write
pub over_more : (old new : Stage2) (p at : Place) (byte k n rest : ℕ) (places : List Place) (q : Place) → k < n → at ≡ further p k → byte ≡ rest % 256 → byte_of new q ≡ with_byte (byte_of old) at byte q
    → overlaid (places_in_row (further p (k + 1)) (n - (k + 1)) ++ places) (rest / 256) q (byte_of new q) ≡ overlaid (places_in_row (further p k) (n - k) ++ places) rest q (byte_of old q)
over_more old new p at byte k n rest places q lt is_at is_byte is =
    rw (is, is_at, is_byte) (ap (λ (ps : List Place). overlaid (ps ++ places) rest q (byte_of old q)) (sym (row_next p k n lt)))

-- the two rows of a write
pub written_rows : (old middle new : Stage2) (low high places : List Place) (value rest last : ℕ) (q : Place) → places ≡ low ++ high
    → ((ps : List Place) → overlaid ps rest q (byte_of middle q) ≡ overlaid (low ++ ps) value q (byte_of old q))
    → ((ps : List Place) → overlaid ps last q (byte_of new q) ≡ overlaid (high ++ ps) rest q (byte_of middle q))
    → byte_of new q ≡ written (byte_of old) places value q
written_rows old middle new low high places value rest last q is first second =
    second [] ∙ first (high ++ []) ∙ ap (λ (ps : List Place). overlaid (low ++ ps) value q (byte_of old q)) (append-nil high)
    ∙ ap (λ (ps : List Place). overlaid ps value q (byte_of old q)) (sym is) ∙ sym (written_over (byte_of old) places value q)
