-- The leaves so far are told behind those that were there.
use Rattle.std.proofs.Common.{◌≡◌, ◌++◌, map, take}
use Rattle.jh_board.specs.Tables.{told_leaf}
use Rattle.jh_board.proofs.leaves.add_leaves.Given as goal

abbrev pub invariant-loop-leaf : goal.invariant-loop-leaf
invariant-loop-leaf l = l.leaves.items ≡ l.initial.leaves.items ++ map (told_leaf l.seat) (take l.leaf-index l.leaf-items)
