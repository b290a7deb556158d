-- The tables so far are those of the windows so far, and few.
use Rattle.std.proofs.Common.{◌≡◌, ◌*◌, ◌≤◌}
use Rattle.jh_shape.specs.declared.marks.TheConstants.{SLOTS, WINDOWS}
use Rattle.jh_shape.specs.Claims.{claims_of}
use Rattle.jh_shape.proofs.WindowLemmas.{in_windows}
use Rattle.jh_shape.proofs.target.Target.tables_at.Given as goal

abbrev pub invariant-loop-window : goal.invariant-loop-window
invariant-loop-window l =
    (l.window ≤ WINDOWS)
    × (l.tables ≤ SLOTS * l.window)
    × (l.tables ≡ in_windows (claims_of l.self) l.level l.window)
