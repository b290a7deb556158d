-- Whether the places are cut is up to the holders that are left.
use Rattle.std.proofs.Common.{◌≡◌, ◌++◌, drop}
use Rattle.jh_shape.specs.Claims.{held_from, holder_to_come}
use Rattle.jh_shape.specs.Shapes.{are_cut}
use Rattle.jh_shape.proofs.target.Target.are_cut.Given as goal

abbrev pub invariant-loop-i : goal.invariant-loop-i
invariant-loop-i l =
    are_cut (held_from l.self.held l.self.loadable l.i (drop l.i l.self.cells.now) ++ holder_to_come l.self.extra) l.place l.size
    ≡ are_cut (held_from l.self.held l.self.loadable 0 l.self.cells.now ++ holder_to_come l.self.extra) l.place l.size
