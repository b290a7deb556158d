-- At first the one table that each cell has is counted, and all levels are left.
use Rattle.std.proofs.Common.{refl, arith}
use Rattle.jh_shape.specs.Claims.{claims_of}
use Rattle.jh_shape.specs.Pages.{tables_of}
use Rattle.jh_shape.proofs.WindowLemmas.{next_level}
use Rattle.jh_shape.proofs.target.Target.tables.Goals as goal

pub loop-level-init : goal.loop-level-init
unfolding tables_of
loop-level-init c = (omega arith, refl)

pub loop-level-preserved : goal.loop-level-preserved
loop-level-preserved c =
    let bound = c.tables_at-pages.ensures.bound in
    let few = c.loop-level.invariant.0 in
    let so_far = c.loop-level.invariant.1 in
    let value = c.tables_at-pages.ensures.value in
    let next = next_level (claims_of c.args.self.now) c.loop-level.level c.loop-level-test.true in
    (omega arith, omega arith)
