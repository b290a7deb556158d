-- A table's bytes are few, and a number below them is small.
use Rattle.std.proofs.Common.{◌*◌, ◌<◌, arith}
use Rattle.jh_num.specs.Levels.{slot_size}
use Rattle.jh_shape.proofs.TableLemmas.{slot_fits}
use Rattle.jh_shape.proofs.interval.capped_in_table.Goals as goal

pub overflow_mul-end : goal.overflow_mul-end
overflow_mul-end c = rw c.slot_size.ensures (let fits = slot_fits c.args.level 512 c.requires (omega arith) in omega arith)

pub overflow_cast-result : goal.overflow_cast-result
overflow_cast-result c =
    let fits = slot_fits c.args.level 512 c.requires (omega arith) in
    let low : c.args.number < 512 * slot_size c.args.level = rw (c.from.ensures, c.slot_size.ensures) at c.if-number-from.true in
    omega arith
