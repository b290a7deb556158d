-- The table's end is small.
use Rattle.std.proofs.Common.{arith}
use Rattle.jh_shape.proofs.TableLemmas.{slot_fits}
use Rattle.jh_shape.proofs.region.meets_table.Goals as goal

pub overflow_mul-table : goal.overflow_mul-table
overflow_mul-table c = rw c.slot_size.ensures (let fits = slot_fits c.args.level 512 c.requires.level (omega arith) in omega arith)

pub overflow_add-base : goal.overflow_add-base
overflow_add-base c = rw c.slot_size.ensures (let fits = slot_fits c.args.level 512 c.requires.level (omega arith) in let low = c.requires.base in omega arith)
