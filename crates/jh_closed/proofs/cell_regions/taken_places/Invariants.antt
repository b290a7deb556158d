-- The places of the regions so far are in.
use Rattle.std.proofs.Common.{◌≡◌, ℕ, ◌≤◌, length, take}
use Rattle.jh_cellcfg.specs.Regions.{AreInRange}
use Rattle.jh_num.specs.Bytes.{has_byte}
use Rattle.jh_closed.specs.Closed.{is_taken}
use Rattle.jh_closed.proofs.cell_regions.taken_places.Given as goal

abbrev pub invariant-loop-region : goal.invariant-loop-region
invariant-loop-region l = record {
  bytes : AreInRange l.regions → (place : ℕ) → has_byte l.places.ranges place ≡ is_taken l.loadable (take l.region-index l.regions) place;
  few : length l.places.ranges ≤ l.region-index;
}
