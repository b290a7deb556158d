-- The leaves of the cells so far are told.
use Rattle.std.proofs.Common.{◌≡◌, take}
use Rattle.std.specs.Prelude.{flat_map}
use Rattle.jh_board.specs.Tables.{told_leaves}
use Rattle.jh_board.proofs.leaves.all_leaves.Given as goal

abbrev pub invariant-loop-seat : goal.invariant-loop-seat
invariant-loop-seat l = l.leaves.items ≡ flat_map (told_leaves l.stage) (take l.seat-index l.seat-items)
