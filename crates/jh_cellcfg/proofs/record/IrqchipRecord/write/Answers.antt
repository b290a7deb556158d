-- The address, the id and the first pin are put, and behind them the words of the bitmap.
use Rattle.std.proofs.Common.{append_assoc}
use Rattle.jh_cellcfg.proofs.record.IrqchipRecord.write.Goals as goal

pub returns : goal.returns
returns c = simp append_assoc at (rw (c.in_ok-u32-2.ensures, c.in_ok-u32.ensures, c.in_ok-u64.ensures) at c.words.ensures)
