-- The pages so far are few, and with the tables of the levels left they make all.
use Rattle.std.proofs.Common.{◌≡◌, ◌+◌, ◌-◌, ◌*◌, ◌≤◌}
use Rattle.jh_num.specs.declared.level.TheConstants.{LAST_LEVEL}
use Rattle.jh_shape.specs.declared.marks.TheConstants.{SLOTS, WINDOWS}
use Rattle.jh_shape.specs.Claims.{claims_of}
use Rattle.jh_shape.specs.Pages.{tables_from, tables_of}
use Rattle.jh_shape.proofs.target.Target.tables.Given as goal

abbrev pub invariant-loop-level : goal.invariant-loop-level
invariant-loop-level l =
    (l.pages ≤ 1 + (WINDOWS * SLOTS) * l.level)
    × (l.pages + tables_from (claims_of l.self) l.level (LAST_LEVEL - l.level) ≡ tables_of (claims_of l.self))
