-- The eight counts are put in the order of the parts that they count.
use Rattle.std.proofs.Common.{append_assoc}
use Rattle.jh_cellcfg.proofs.record.CountsRecord.write.Goals as goal

pub returns : goal.returns
returns c = simp append_assoc at (rw (c.in_ok-u32-7.ensures, c.in_ok-u32-6.ensures, c.in_ok-u32-5.ensures, c.in_ok-u32-4.ensures, c.in_ok-u32-3.ensures, c.in_ok-u32-2.ensures, c.in_ok-u32.ensures) at c.u32-8.ensures)
