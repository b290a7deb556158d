-- The holders not yet asked close the place exactly where all holders do.
use Rattle.std.proofs.Common.{◌≡◌, ◌++◌, drop}
use Rattle.jh_shape.specs.Claims.{held_from, holder_to_come}
use Rattle.jh_shape.specs.Shapes.{is_closed}
use Rattle.jh_shape.proofs.target.Target.is_closed.Given as goal

abbrev pub invariant-loop-i : goal.invariant-loop-i
invariant-loop-i l =
    is_closed (held_from l.self.held l.self.loadable l.i (drop l.i l.self.cells.now) ++ holder_to_come l.self.extra) l.place
    ≡ is_closed (held_from l.self.held l.self.loadable 0 l.self.cells.now ++ holder_to_come l.self.extra) l.place
