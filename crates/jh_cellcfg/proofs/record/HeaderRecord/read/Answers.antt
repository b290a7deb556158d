-- What is taken field by field, and for the counts as one record, is the header in one piece.
use Rattle.std.proofs.Common.{append_assoc}
use Rattle.jh_cellcfg.proofs.record.HeaderRecord.read.Goals as goal

pub returns-clause-taken : goal.returns-clause-taken
returns-clause-taken c = rw (c.array.ensures.taken, c.u32.ensures.taken, c.u32-2.ensures.taken, c.read.ensures.taken, c.u32-3.ensures.taken, c.u64.ensures.taken, c.u64-2.ensures.taken, c.array-2.ensures.taken) (simp append_assoc)
