-- The slots go from the one that has the start to the last that begins before the end, of those of the table.
use Rattle.std.proofs.Common.{◌≡◌, ◌*◌, ◌/◌, arith}
use Rattle.std.proofs.Math.Nat.{mul-div_cancel}
use Rattle.jh_num.specs.Levels.{slot_size}
use Rattle.jh_shape.proofs.LawLemmas.{size_some}
use Rattle.jh_shape.proofs.MarkLemmas.{touched_slots}
use Rattle.jh_shape.proofs.TableLemmas.{slot_fits, slots_of_table}
use Rattle.jh_shape.proofs.interval.Interval.touched_in_table.Goals as goal

pub overflow_add-capped_in_table : goal.overflow_add-capped_in_table
overflow_add-capped_in_table c =
    rw (c.capped_in_table-2.ensures, c.slot_size.ensures)
    (let fits = slot_fits c.args.level 512 c.requires (omega arith) in let one = slot_fits c.args.level 1 c.requires (omega arith) in omega arith)

pub returns-clause-bound : goal.returns-clause-bound
returns-clause-bound c =
    rw (c.slot_of-to.ensures, c.slot_size.ensures)
    (slots_of_table c.args.level c.capped_in_table-2.result c.requires (let e = c.capped_in_table-2.ensures in omega arith))

pub returns-clause-slots : goal.returns-clause-slots
returns-clause-slots c = λ n few.
    let size = slot_size c.args.level in
    let all : (512 * size) / size ≡ 512 = mul-div_cancel 512 (size_some c.args.level) in
    rw (c.slot_of-from.ensures, c.slot_of-to.ensures, c.slot_size.ensures, c.capped_in_table.ensures, c.capped_in_table-2.ensures)
    (touched_slots c.args.self.now.start c.args.self.now.end size n (512 * size) (size_some c.args.level) c.if-self.false (let e = all in omega arith))
