-- The slots below the limit that the holders so far cut are marked, and no other below it.
use Rattle.std.proofs.Common.{◌+◌, ◌*◌, take}
use Rattle.jh_shape.specs.Claims.{held_from}
use Rattle.jh_shape.specs.Private.Marks.{AreMarkedBelow}
use Rattle.jh_shape.specs.Shapes.{are_cut}
use Rattle.jh_num.specs.Levels.{slot_size}
use Rattle.jh_shape.proofs.target.Target.fill_cuts.Given as goal

abbrev pub invariant-loop-i : goal.invariant-loop-i
invariant-loop-i l = AreMarkedBelow l.limit l.words l.level (λ n. are_cut (held_from l.self.held l.self.loadable 0 (take l.i l.self.cells.now)) (l.base + n * slot_size l.level) (slot_size l.level))
