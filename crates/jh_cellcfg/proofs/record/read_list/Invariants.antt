-- The records so far fit their types, and their bytes and what is left are the whole.
use Rattle.jh_cellcfg.proofs.Lists.{ReadSoFar}
use Rattle.jh_cellcfg.proofs.record.read_list.Given as goal

abbrev pub invariant-loop : goal.invariant-loop
invariant-loop g l = ReadSoFar g.R.Record.bytes_of g.R.Record.Fits g.R.Record.SIZE l.fn.reader.rest.now l.reader.rest.now l.list.items l.counter
