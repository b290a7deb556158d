-- Each call goes one level down; the tables are those of the slots gone over.
use Rattle.std.proofs.Common.{◌≡◌, ◌+◌, ◌-◌, ◌*◌, ◌≤◌}
use Rattle.jh_num.specs.Below.{sum_below}
use Rattle.jh_shape.specs.Claims.{claims_of}
use Rattle.jh_shape.specs.Shapes.{want_of}
use Rattle.jh_shape.specs.Wanted.{if_table, tables_under}
use Rattle.jh_edit.specs.Private.Slots.{want_at}
use Rattle.jh_edit.proofs.counting.+tables.Given as goal

abbrev pub decreases-tables_at : goal.decreases-tables_at
decreases-tables_at l = 2 * l.left + 1

abbrev pub decreases-tables_from : goal.decreases-tables_from
decreases-tables_from l = 2 * l.left

abbrev pub invariant-tables_from-loop-slot : goal.invariant-tables_from-loop-slot
invariant-tables_from-loop-slot l =
    (l.tables ≡ 1 + sum_below l.slot (λ i. if_table (tables_under (want_of (claims_of l.t)) (l.left - 1) (l.start + i * l.size)) (want_at l.wants i)))
    × (l.tables ≤ 1 + l.slot * 262657)
