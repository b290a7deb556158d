-- The counts are put as one record, amid the other fields.
use Rattle.std.proofs.Common.{append_assoc}
use Rattle.jh_cellcfg.proofs.record.HeaderRecord.write.Goals as goal

pub returns : goal.returns
returns c = simp append_assoc at (rw (c.in_ok-u64-2.ensures, c.in_ok-u64.ensures, c.in_ok-u32-2.ensures, c.in_ok-write.ensures, c.in_ok-out.ensures, c.in_ok-u32.ensures, c.in_ok-bytes.ensures) at c.bytes-2.ensures)
