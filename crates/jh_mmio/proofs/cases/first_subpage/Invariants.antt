-- No region so far has the access.
use Rattle.std.proofs.Common.{◌≡◌, ℕ, ◌<◌, false, get_or}
use Rattle.jh_num.specs.Bytes.{has_byte}
use Rattle.jh_cellcfg.specs.declared.region.Region.{Region}
use Rattle.jh_mmio.specs.Dispatch.{takes_all}
use Rattle.jh_mmio.proofs.cases.first_subpage.Given as goal

abbrev pub invariant-loop-number : goal.invariant-loop-number
invariant-loop-number l = (k : ℕ) → k < l.number → (d : Region) → takes_all (has_byte l.closed.ranges) l.at l.width (get_or l.regions k d) ≡ false
