-- Both starts, the size and the flags are put one behind another.
use Rattle.std.proofs.Common.{append_assoc}
use Rattle.jh_cellcfg.proofs.record.RegionRecord.write.Goals as goal

pub returns : goal.returns
returns c = simp append_assoc at (rw (c.in_ok-u64-3.ensures, c.in_ok-u64-2.ensures, c.in_ok-u64.ensures) at c.u64-4.ensures)
