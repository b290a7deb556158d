-- Slot by slot the leaves are put behind one another.
use Rattle.std.proofs.Common.{◌≡◌, ◌+◌, ◌-◌, ◌*◌, ◌++◌, ◌∙◌, ap, sym, subst, append-nil, arith, refl}
use Rattle.jh_num.specs.declared.level.TheConstants.{LAST_LEVEL}
use Rattle.jh_frames.specs.Memory.{byte_at, word_in}
use Rattle.jh_edit.specs.Leaves.{leaves_before, leaves_of, leaves_on}
use Rattle.jh_edit.specs.Private.Slots.{LeadsToTable}
use Rattle.jh_edit.proofs.CountingLemmas.{next_start}
use Rattle.jh_edit.proofs.LeafLemmas.{leaves_all, leaves_zero, more_leaves, slot_here, slot_leaves}
use Rattle.jh_edit.proofs.leaves.+leaves.Goals as goal

pub add_leaves-returns-then-left-eq0 : goal.add_leaves-returns-then-left-eq0
add_leaves-returns-then-left-eq0 t c =
    let items = c.args.leaves.now.items in
    sym (append-nil items) ∙ ap (λ l. items ++ l) (sym (leaves_zero (word_in (byte_at c.args.f.now)) c.args.left c.args.table c.args.start c.if-left-eq0.true))

pub add_leaves-overflow_add-begin : goal.add_leaves-overflow_add-begin
add_leaves-overflow_add-begin t c =
    let some = c.if-left-eq0.false in
    let next = next_start c.args.left c.args.start c.loop-slot.slot c.slot_size-size.result (omega arith) c.requires.left c.requires.start c.loop-slot-test.true c.slot_size-size.ensures in
    let small = next.sum in omega arith

pub add_leaves-add_leaf-requires : goal.add_leaves-add_leaf-requires
add_leaves-add_leaf-requires t c =
    let some = c.if-left-eq0.false in
    let down = c.decreases in
    let next = next_start c.args.left c.args.start c.loop-slot.slot c.slot_size-size.result (omega arith) c.requires.left c.requires.start c.loop-slot-test.true c.slot_size-size.ensures in
    let same : 4 - c.args.left ≡ LAST_LEVEL - (c.args.left - 1) = omega arith in
    (omega arith, (omega arith, (subst (λ level. LeadsToTable level c.descriptor.result) same c.descriptor.ensures.table, next.next)))

pub add_leaves-loop-slot-preserved : goal.add_leaves-loop-slot-preserved
add_leaves-loop-slot-preserved t c =
    let some = c.if-left-eq0.false in
    let word = word_in (byte_at c.args.f.now) in
    let left = c.args.left in
    let size = c.slot_size-size.result in
    let begin = c.args.start + c.loop-slot.slot * size in
    let same : LAST_LEVEL - (left - 1) ≡ 4 - left = omega arith in
    more_leaves c.args.leaves.now.items c.loop-slot.leaves.items c.add_leaf.new.leaves.items (leaves_on (λ next. leaves_of word (left - 1) next begin) (LAST_LEVEL - (left - 1)) begin c.descriptor.result)
    (slot_leaves word c.args.table c.args.start (left - 1) (4 - left) size) c.loop-slot.slot c.loop-slot.invariant c.in_ok-add_leaf.ensures
    (slot_here word c.args.table c.args.start (left - 1) (4 - left) (LAST_LEVEL - (left - 1)) size c.loop-slot.slot c.descriptor.result same c.descriptor.ensures.value)

pub add_leaves-returns : goal.add_leaves-returns
add_leaves-returns t c =
    let some = c.if-left-eq0.false in
    let word = word_in (byte_at c.args.f.now) in
    let size = c.slot_size-size.result in
    let items = c.args.leaves.now.items in
    let end : c.loop-slot.slot ≡ 512 = (let test = c.loop-slot-test.false in let last = c.loop-slot.auto.slot-end in omega arith) in
    c.loop-slot.invariant
    ∙ (ap (λ n. items ++ leaves_before (slot_leaves word c.args.table c.args.start (c.args.left - 1) (4 - c.args.left) size) n) end
    ∙ ap (λ l. items ++ l) (leaves_all word c.args.left c.args.table c.args.start (4 - c.args.left) size (omega arith) refl c.slot_size-size.ensures))
