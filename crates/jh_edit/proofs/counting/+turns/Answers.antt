-- Slot by slot the turns add up.
use Rattle.std.proofs.Common.{◌≡◌, ℕ, ◌+◌, ◌-◌, ◌*◌, ◌≤◌, ◌∙◌, ap, subst, sym, arith, refl}
use Rattle.jh_num.specs.Below.{sum_below}
use Rattle.jh_desc.specs.Descriptors.{read_of}
use Rattle.jh_frames.specs.Memory.{byte_at, word_in}
use Rattle.jh_shape.specs.Claims.{claims_of}
use Rattle.jh_shape.specs.Shapes.{want_of}
use Rattle.jh_edit.specs.Turns.{turn_if, turns_of}
use Rattle.jh_edit.specs.Private.Slots.{LeadsToTable, slot_turns, want_at}
use Rattle.jh_edit.proofs.CountingLemmas.{start_sum, more_sum, first_slot, next_start, lacking_turns, other_turns, slot_few, turns_all, turns_few, turns_zero}
use Rattle.jh_edit.proofs.counting.+turns.Goals as goal

pub turns_from-returns-then-left-eq0-clause-value : goal.turns_from-returns-then-left-eq0-clause-value
turns_from-returns-then-left-eq0-clause-value t c = turns_zero (want_of (claims_of c.args.t.now)) (word_in (byte_at c.args.f.now)) c.args.left c.args.table c.args.start c.if-left-eq0.true

pub turns_from-wants-requires-clause-slot : goal.turns_from-wants-requires-clause-slot
turns_from-wants-requires-clause-slot t c = let some = c.if-left-eq0.false in (first_slot c.args.left c.args.start (omega arith) c.requires.left c.requires.start).slot

pub turns_from-wants-requires-clause-whole : goal.turns_from-wants-requires-clause-whole
turns_from-wants-requires-clause-whole t c = let some = c.if-left-eq0.false in (first_slot c.args.left c.args.start (omega arith) c.requires.left c.requires.start).whole

pub turns_from-loop-slot-init : goal.turns_from-loop-slot-init
turns_from-loop-slot-init t c =
    let f = λ (i : ℕ). slot_turns (want_of (claims_of c.args.t.now)) (word_in (byte_at c.args.f.now)) (c.args.left - 1) (c.args.start + i * c.slot_size-size.result) (want_at c.wants.new.wants i) (read_of (word_in (byte_at c.args.f.now) (c.args.table + 8 * i)) (4 - c.args.left)) in
    let a = c.turn_if.ensures.value in
    let b = c.turn_if-2.ensures.value in
    let k : c.turn_if.result + c.turn_if-2.result ≡ turn_if c.any_wrong-wrong.result + turn_if c.any_lacking-lacking.result = omega arith in
    let few : c.turn_if.result ≤ 1 = c.turn_if.ensures.few in
    let few' : c.turn_if-2.result ≤ 1 = c.turn_if-2.ensures.few in
    (k ∙ start_sum (turn_if c.any_wrong-wrong.result + turn_if c.any_lacking-lacking.result) f, omega arith)

pub turns_from-overflow_mul-slot : goal.turns_from-overflow_mul-slot
turns_from-overflow_mul-slot t c =
    let some = c.if-left-eq0.false in
    let next = next_start c.args.left c.args.start c.loop-slot.slot c.slot_size-size.result (omega arith) c.requires.left c.requires.start c.loop-slot-test.true c.slot_size-size.ensures in
    let small = next.product in omega arith

pub turns_from-overflow_add-start : goal.turns_from-overflow_add-start
turns_from-overflow_add-start t c =
    let some = c.if-left-eq0.false in
    let next = next_start c.args.left c.args.start c.loop-slot.slot c.slot_size-size.result (omega arith) c.requires.left c.requires.start c.loop-slot-test.true c.slot_size-size.ensures in
    let small = next.sum in omega arith

pub turns_from-turns_at-turns-requires : goal.turns_from-turns_at-turns-requires
turns_from-turns_at-turns-requires t c =
    let some = c.if-left-eq0.false in
    let down = c.decreases in
    let left = c.requires.left in
    let next = next_start c.args.left c.args.start c.loop-slot.slot c.slot_size-size.result (omega arith) c.requires.left c.requires.start c.loop-slot-test.true c.slot_size-size.ensures in
    let level : 4 - c.args.left ≡ 3 - (c.args.left - 1) = omega arith in
    (omega arith, (c.requires.cells, (c.requires.sound, (omega arith, (subst (λ l. LeadsToTable l c.descriptor-descriptor.result) level c.descriptor-descriptor.ensures.table, next.next)))))

pub turns_from-loop-slot-preserved : goal.turns_from-loop-slot-preserved
turns_from-loop-slot-preserved t c =
    let want = want_of (claims_of c.args.t.now) in
    let word = word_in (byte_at c.args.f.now) in
    let f = λ (i : ℕ). slot_turns want word (c.args.left - 1) (c.args.start + i * c.slot_size-size.result) (want_at c.wants.new.wants i) (read_of (word (c.args.table + 8 * i)) (4 - c.args.left)) in
    let few : c.turns_at-turns.result ≤ 1050628 = c.turns_at-turns.ensures.few in
    let before : c.loop-slot.turns ≤ 2 + c.loop-slot.slot * 1050628 = c.loop-slot.invariant.1 in (
      more_sum (turn_if c.any_wrong-wrong.result + turn_if c.any_lacking-lacking.result) c.loop-slot.slot c.loop-slot.turns c.turns_at-turns.result f c.loop-slot.invariant.0
          (c.turns_at-turns.ensures.value ∙ ap (slot_turns want word (c.args.left - 1) (c.args.start + c.loop-slot.slot * c.slot_size-size.result) (want_at c.wants.new.wants c.loop-slot.slot)) c.descriptor-descriptor.ensures.value),
      omega arith,
    )

pub turns_from-returns-clause-value : goal.turns_from-returns-clause-value
turns_from-returns-clause-value t c =
    let some = c.if-left-eq0.false in
    let end : c.loop-slot.slot ≡ 512 = (let test = c.loop-slot-test.false in let last = c.loop-slot.auto.slot-end in omega arith) in
    let want = want_of (claims_of c.args.t.now) in
    let word = word_in (byte_at c.args.f.now) in
    let k = turn_if c.any_wrong-wrong.result + turn_if c.any_lacking-lacking.result in
    let f = λ (size i : ℕ). slot_turns want word (c.args.left - 1) (c.args.start + i * size) (want_at c.wants.new.wants i) (read_of (word (c.args.table + 8 * i)) (4 - c.args.left)) in
    turns_all want word c.args.left (4 - c.args.left) c.args.table c.args.start c.loop-slot.turns c.wants.new.wants c.any_wrong-wrong.result c.any_lacking-lacking.result (omega arith) refl c.wants.ensures
    c.any_wrong-wrong.ensures c.any_lacking-lacking.ensures
    (c.loop-slot.invariant.0 ∙ ap (λ n. k + sum_below n (f c.slot_size-size.result)) end ∙ ap (λ size. k + sum_below 512 (f size)) c.slot_size-size.ensures)

pub turns_at-returns-in-Table-descriptor-clause-few : goal.turns_at-returns-in-Table-descriptor-clause-few
turns_at-returns-in-Table-descriptor-clause-few t c =
    let few : turns_of (want_of (claims_of c.args.t.now)) (word_in (byte_at c.args.f.now)) c.args.left c.in-Table-descriptor.next c.args.start ≤ 1050628 =
    turns_few (want_of (claims_of c.args.t.now)) (word_in (byte_at c.args.f.now)) c.args.left c.in-Table-descriptor.next c.args.start c.requires.left in
    let e = c.turns_from.ensures.value in omega arith

pub turns_at-returns-in_default-descriptor : goal.turns_at-returns-in_default-descriptor
turns_at-returns-in_default-descriptor t c =
    let want = want_of (claims_of c.args.t.now) in
    let word = word_in (byte_at c.args.f.now) in
    let lacks = lacking_turns want word c.args.left c.args.start c.args.descriptor c.in_default-descriptor.not-Table in
    let value : 2 * c.tables_from.result ≡ slot_turns want word c.args.left c.args.start c.args.want c.args.descriptor =
    ap (λ n. 2 * n) c.tables_from.ensures.value ∙ sym lacks ∙ ap (λ w. slot_turns want word c.args.left c.args.start w c.args.descriptor) (sym c.in-Table.is) in
    let few = slot_few want word c.args.left c.args.start c.args.want c.args.descriptor c.requires.left in
    record { value = value; few = omega arith }

pub turns_at-returns-in_default : goal.turns_at-returns-in_default
turns_at-returns-in_default t c =
    let want = want_of (claims_of c.args.t.now) in
    let word = word_in (byte_at c.args.f.now) in
    let value : c.pages_at.result ≡ slot_turns want word c.args.left c.args.start c.args.want c.args.descriptor =
    c.pages_at.ensures.value ∙ sym (other_turns want word c.args.left c.args.start c.args.want c.args.descriptor c.in_default.not-Table) in
    let few = slot_few want word c.args.left c.args.start c.args.want c.args.descriptor c.requires.left in
    record { value = value; few = omega arith }
