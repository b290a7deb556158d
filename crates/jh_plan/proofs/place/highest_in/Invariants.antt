-- No free place lies above the one that is tried.
use Rattle.std.proofs.Common.{◌≡◌, ◌≤◌, ◌+◌, ℕ, true}
use Rattle.jh_cellcfg.specs.Regions.{phys_end}
use Rattle.jh_plan.specs.Places.{is_aligned, IsFreeIn}
use Rattle.jh_plan.proofs.place.highest_in.Given as goal

abbrev pub invariant-loop-place : goal.invariant-loop-place
invariant-loop-place l = record {
  aligned : is_aligned l.size l.place ≡ true;
  ends : l.place + l.size ≤ phys_end l.room;
  highest : (other : ℕ) → IsFreeIn l.room l.cells l.size other → other ≤ l.place;
}

abbrev pub decreases-loop-place : goal.decreases-loop-place
decreases-loop-place l = l.place
