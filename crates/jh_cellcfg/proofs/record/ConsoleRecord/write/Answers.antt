-- Seven fields are put one behind another, from the address to the clock register.
use Rattle.std.proofs.Common.{append_assoc}
use Rattle.jh_cellcfg.proofs.record.ConsoleRecord.write.Goals as goal

pub returns : goal.returns
returns c = simp append_assoc at (rw (c.in_ok-u32-3.ensures, c.in_ok-u32-2.ensures, c.in_ok-u16-2.ensures, c.in_ok-u16.ensures, c.in_ok-u32.ensures, c.in_ok-u64.ensures) at c.u64-2.ensures)
