-- Slot by slot the tables add up.
use Rattle.std.proofs.Common.{◌≡◌, ℕ, ◌+◌, ◌-◌, ◌*◌, ◌≤◌, ◌∙◌, ap, arith, refl}
use Rattle.jh_num.specs.Below.{sum_below}
use Rattle.jh_shape.specs.Claims.{claims_of}
use Rattle.jh_shape.specs.Shapes.{want_of}
use Rattle.jh_shape.specs.Wanted.{if_table, tables_under}
use Rattle.jh_edit.specs.Private.Slots.{want_at}
use Rattle.jh_edit.proofs.CountingLemmas.{start_sum, more_sum, first_slot, next_start, tables_all, under_few, under_one, under_zero}
use Rattle.jh_edit.proofs.counting.+tables.Goals as goal

pub tables_at-returns-in-Table-clause-few : goal.tables_at-returns-in-Table-clause-few
tables_at-returns-in-Table-clause-few t c =
    let few : tables_under (want_of (claims_of c.args.t.now)) c.args.left c.args.start ≤ 262657 = under_few (want_of (claims_of c.args.t.now)) c.args.left c.args.start c.requires.left in
    let e = c.tables_from.ensures.value in omega arith

pub tables_from-returns-then-left-eq0-clause-value : goal.tables_from-returns-then-left-eq0-clause-value
tables_from-returns-then-left-eq0-clause-value t c = under_zero (want_of (claims_of c.args.t.now)) c.args.left c.args.start c.if-left-eq0.true

pub tables_from-returns-then-left-eq1-clause-value : goal.tables_from-returns-then-left-eq1-clause-value
tables_from-returns-then-left-eq1-clause-value t c = under_one (want_of (claims_of c.args.t.now)) c.args.left c.args.start c.if-left-eq1.true

pub tables_from-wants-requires-clause-slot : goal.tables_from-wants-requires-clause-slot
tables_from-wants-requires-clause-slot t c = let some = c.if-left-eq0.false in (first_slot c.args.left c.args.start (omega arith) c.requires.left c.requires.start).slot

pub tables_from-wants-requires-clause-whole : goal.tables_from-wants-requires-clause-whole
tables_from-wants-requires-clause-whole t c = let some = c.if-left-eq0.false in (first_slot c.args.left c.args.start (omega arith) c.requires.left c.requires.start).whole

pub tables_from-loop-slot-init : goal.tables_from-loop-slot-init
tables_from-loop-slot-init t c =
    let f = λ (i : ℕ). if_table (tables_under (want_of (claims_of c.args.t.now)) (c.args.left - 1) (c.args.start + i * c.slot_size-size.result)) (want_at c.wants.new.wants i) in
    (start_sum 1 f, omega arith)

pub tables_from-overflow_mul-slot : goal.tables_from-overflow_mul-slot
tables_from-overflow_mul-slot t c =
    let some = c.if-left-eq0.false in
    let next = next_start c.args.left c.args.start c.loop-slot.slot c.slot_size-size.result (omega arith) c.requires.left c.requires.start c.loop-slot-test.true c.slot_size-size.ensures in
    let small = next.product in omega arith

pub tables_from-overflow_add-start : goal.tables_from-overflow_add-start
tables_from-overflow_add-start t c =
    let some = c.if-left-eq0.false in
    let next = next_start c.args.left c.args.start c.loop-slot.slot c.slot_size-size.result (omega arith) c.requires.left c.requires.start c.loop-slot-test.true c.slot_size-size.ensures in
    let small = next.sum in omega arith

pub tables_from-tables_at-tables-requires : goal.tables_from-tables_at-tables-requires
tables_from-tables_at-tables-requires t c =
    let some = c.if-left-eq0.false in
    let down = c.decreases in
    let next = next_start c.args.left c.args.start c.loop-slot.slot c.slot_size-size.result (omega arith) c.requires.left c.requires.start c.loop-slot-test.true c.slot_size-size.ensures in
    (omega arith, (c.requires.cells, (c.requires.sound, (omega arith, next.next))))

pub tables_from-loop-slot-preserved : goal.tables_from-loop-slot-preserved
tables_from-loop-slot-preserved t c =
    let f = λ (i : ℕ). if_table (tables_under (want_of (claims_of c.args.t.now)) (c.args.left - 1) (c.args.start + i * c.slot_size-size.result)) (want_at c.wants.new.wants i) in
    let few : c.tables_at-tables.result ≤ 262657 = c.tables_at-tables.ensures.few in
    let before : c.loop-slot.tables ≤ 1 + c.loop-slot.slot * 262657 = c.loop-slot.invariant.1 in
    (more_sum 1 c.loop-slot.slot c.loop-slot.tables c.tables_at-tables.result f c.loop-slot.invariant.0 c.tables_at-tables.ensures.value, omega arith)

pub tables_from-returns-clause-value : goal.tables_from-returns-clause-value
tables_from-returns-clause-value t c =
    let some = c.if-left-eq0.false in
    let end : c.loop-slot.slot ≡ 512 = (let test = c.loop-slot-test.false in let last = c.loop-slot.auto.slot-end in omega arith) in
    let f = λ (size i : ℕ). if_table (tables_under (want_of (claims_of c.args.t.now)) (c.args.left - 1) (c.args.start + i * size)) (want_at c.wants.new.wants i) in
    tables_all (want_of (claims_of c.args.t.now)) c.args.left (4 - c.args.left) c.args.start c.loop-slot.tables c.wants.new.wants (omega arith) refl c.wants.ensures
    (c.loop-slot.invariant.0 ∙ ap (λ n. 1 + sum_below n (f c.slot_size-size.result)) end ∙ ap (λ size. 1 + sum_below 512 (f size)) c.slot_size-size.ensures)
