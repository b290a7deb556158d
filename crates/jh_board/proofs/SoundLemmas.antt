-- What is true of memory at every moment stays so where tables stay; and where communication pages lie.
use Rattle.std.proofs.Common.{◌≡◌, ℕ, ◌+◌, ◌%◌, ◌≤◌, ◌⊎◌, Some, sym, ◌∙◌}
use Rattle.jh_edit.specs.declared.stage.Stage2.{Stage2}
use Rattle.jh_board.specs.Pages.{KeepsTables}
use Rattle.jh_board.specs.Seats.{comm_of, IsOwnPage}
use Rattle.jh_board.specs.Private.Seated.{IsSoundMemory}
use Rattle.jh_board.proofs.SeatsLemmas.{seat_taken, seats_apart, taken_within}
use Rattle.jh_board.proofs.TablesLemmas.{forest_kept, WritesKeepForests}

pub sound_kept : WritesKeepForests → (base : ℕ) (old new : Stage2) → KeepsTables old new → IsSoundMemory base old → IsSoundMemory base new
sound_kept law base old new kept h = record {
  start = h.start ∙ sym kept.writes.base;
  claims = h.claims;
  forest = forest_kept law h.claims old new kept h.forest;
  still = kept.editing ∙ h.still;
}

-- ---- communication pages

-- that of a cell is one of the hypervisor's
pub page_inside : (base : ℕ) (stage : Stage2) → IsSoundMemory base stage → (id page : ℕ) → comm_of stage id ≡ Some page → IsOwnPage stage.frames.own page
page_inside base stage h id page own = taken_within stage page h.forest.inside (seat_taken h.claims stage id page h.forest h.still own)

pub page_aligned : (base : ℕ) (stage : Stage2) → IsSoundMemory base stage → (id page : ℕ) → comm_of stage id ≡ Some page → page % 4096 ≡ 0
page_aligned base stage h id page own = (seat_taken h.claims stage id page h.forest h.still own).in_range.aligned

-- and those of two cells have no byte in common
pub page_apart : (base : ℕ) (stage : Stage2) → IsSoundMemory base stage → (id cell page other : ℕ) → (id ≡ cell → ⊥) → comm_of stage id ≡ Some page → comm_of stage cell ≡ Some other → (page + 4096 ≤ other) ⊎ (other + 4096 ≤ page)
page_apart base stage h id cell page other differ first second = seats_apart h.claims stage id cell page other h.forest h.still differ first second
