-- What the holders so far cut is marked in the one list, and what they close in the other.
use Rattle.std.proofs.Common.{◌+◌, ◌*◌, take}
use Rattle.jh_num.specs.Levels.{slot_size}
use Rattle.jh_shape.specs.declared.marks.TheConstants.{TABLE_SLOTS}
use Rattle.jh_shape.specs.Claims.{held_from}
use Rattle.jh_shape.specs.Private.Marks.{AreMarkedBelow}
use Rattle.jh_shape.specs.Shapes.{are_cut, is_closed}
use Rattle.jh_shape.proofs.target.Target.fill_held.Given as goal

abbrev pub invariant-loop-i : goal.invariant-loop-i
invariant-loop-i l = record {
  cuts : AreMarkedBelow TABLE_SLOTS l.cuts l.level (λ n. are_cut (held_from l.self.held l.self.loadable 0 (take l.i l.self.cells.now)) (l.base + n * slot_size l.level) (slot_size l.level));
  closed : AreMarkedBelow TABLE_SLOTS l.closed l.level (λ n. is_closed (held_from l.self.held l.self.loadable 0 (take l.i l.self.cells.now)) (l.base + n * slot_size l.level));
}
