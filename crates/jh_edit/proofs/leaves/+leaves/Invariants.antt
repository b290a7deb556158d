-- Each call goes one level down; the leaves are those of the slots gone over.
use Rattle.std.proofs.Common.{◌≡◌, ◌+◌, ◌-◌, ◌*◌, ◌++◌}
use Rattle.jh_frames.specs.Memory.{byte_at, word_in}
use Rattle.jh_edit.specs.Leaves.{leaves_before}
use Rattle.jh_edit.proofs.LeafLemmas.{slot_leaves}
use Rattle.jh_edit.proofs.leaves.+leaves.Given as goal

abbrev pub decreases-add_leaf : goal.decreases-add_leaf
decreases-add_leaf l = 2 * l.left + 1

abbrev pub decreases-add_leaves : goal.decreases-add_leaves
decreases-add_leaves l = 2 * l.left

abbrev pub invariant-add_leaves-loop-slot : goal.invariant-add_leaves-loop-slot
invariant-add_leaves-loop-slot l = l.leaves.items ≡ l.fn.leaves.items ++ leaves_before (slot_leaves (word_in (byte_at l.f)) l.table l.start (l.left - 1) l.level l.size) l.slot
