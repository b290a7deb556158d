-- The places that the cells so far take are closed, and no other.
use Rattle.std.proofs.Common.{◌≡◌, ℕ, ◌≤◌, List, length, take}
use Rattle.jh_num.specs.Bytes.{has_byte}
use Rattle.jh_cellcfg.specs.declared.live.Live.{Live}
use Rattle.jh_num.specs.Bits.{has_bit}
use Rattle.jh_shape.specs.Lives.{is_loadable_at}
use Rattle.jh_closed.specs.Closed.{is_closed_by, all_regions, count_regions}
use Rattle.jh_closed.proofs.closed.close_again.Given as goal

abbrev pub invariant-loop-i : goal.invariant-loop-i
invariant-loop-i l = record {
  bytes : (lives : List Live) → all_regions lives ≡ l.cells → ((i : ℕ) → has_bit l.loadable i ≡ is_loadable_at lives i) → (place : ℕ) → has_byte l.closed.ranges place ≡ is_closed_by (take l.i lives) place;
  few : length l.closed.ranges ≤ count_regions (take l.i l.cells);
  room : l.fn.closed.room ≤ l.closed.room;
}
