-- Behind the bytes that stood there are those of the records so far.
use Rattle.std.proofs.Common.{◌≡◌, ◌++◌, take}
use Rattle.std.specs.List.{flat_map}
use Rattle.jh_cellcfg.proofs.record.write_list.Given as goal

abbrev pub invariant-loop-record : goal.invariant-loop-record
invariant-loop-record g l = l.more.written.items ≡ l.fn.out.written.items ++ flat_map g.R.Record.bytes_of (take l.record-index l.record-items)
