-- Slot by slot, until one is found.
use Rattle.std.proofs.Common.{◌+◌, ◌∙◌, ap, sym, refl, arith}
use Rattle.jh_num.proofs.Public.{below_at, below_more, below_none}
use Rattle.jh_frames.specs.Memory.{byte_at, word_in}
use Rattle.jh_edit.specs.Turns.{lacks_leaf}
use Rattle.jh_edit.specs.Private.Slots.{lacks_at, want_at}
use Rattle.jh_edit.proofs.counting.any_lacking.Goals as goal

pub loop-slot-init : goal.loop-slot-init
loop-slot-init c = below_none (lacks_at c.args.wants.now (word_in (byte_at c.args.f.now)) c.args.level c.args.table) 0 refl

pub returns-then-lacks_leaf : goal.returns-then-lacks_leaf
returns-then-lacks_leaf c =
    sym (below_at (lacks_at c.args.wants.now (word_in (byte_at c.args.f.now)) c.args.level c.args.table) 512 c.loop-slot.slot c.loop-slot-test.true
    (ap (lacks_leaf (want_at c.args.wants.now c.loop-slot.slot)) (sym c.descriptor.ensures.value) ∙ sym c.lacks_leaf.ensures ∙ c.if-lacks_leaf.true))

pub loop-slot-preserved : goal.loop-slot-preserved
loop-slot-preserved c =
    below_more (lacks_at c.args.wants.now (word_in (byte_at c.args.f.now)) c.args.level c.args.table) c.loop-slot.slot (c.loop-slot.slot + 1) (omega arith) c.loop-slot.invariant
    (ap (lacks_leaf (want_at c.args.wants.now c.loop-slot.slot)) (sym c.descriptor.ensures.value) ∙ sym c.lacks_leaf.ensures ∙ c.if-lacks_leaf.false)
