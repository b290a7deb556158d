-- The pool has fewer pages than root takes.
use Rattle.std.proofs.Common.{refl}
use Rattle.jh_image.specs.declared.fault.ImageCause.TheVariants.{PoolSmall}
use Rattle.jh_image.specs.Private.Causes.{IsPoolSmall}
use Rattle.jh_image.proofs.StopLemmas.{on_refusal}
use Rattle.jh_image.proofs.admission.check_pool.Goals as goal

pub returns-then-have-need-clause-err : goal.returns-then-have-need-clause-err
returns-then-have-need-clause-err c =
    on_refusal (IsPoolSmall c.args.board.now c.args.system.now) c.args.board.now (PoolSmall c.root_pages-need.result c.pool_pages-have.result) c.refused.result c.refused.ensures
    (refl, c.root_pages-need.ensures, c.pool_pages-have.ensures, c.if-have-need.true)
