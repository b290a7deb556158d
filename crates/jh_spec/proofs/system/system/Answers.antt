-- The members before root, root, and whether all names are listed: the first fault is told.
use Rattle.std.proofs.lemmas.Result.{err_from_is_err_and}
use Rattle.jh_spec.specs.Cells.{system_told}
use Rattle.jh_spec.proofs.Steps.{step, stop, ended}
use Rattle.jh_spec.proofs.system.system.Goals as goal

pub returns-in_err-platform-clause-told : goal.returns-in_err-platform-clause-told
unfolding system_told
returns-in_err-platform-clause-told c =
    let p = err_from_is_err_and c.from_residual.result c.from_residual.ensures.1 in
    rw (p.1, p.2) (stop _ _ _ c.in_err-platform.ensures)

pub returns-in_err-root-clause-told : goal.returns-in_err-root-clause-told
unfolding system_told
returns-in_err-root-clause-told c =
    let p = err_from_is_err_and c.from_residual-in_err-root.result c.from_residual-in_err-root.ensures.1 in
    rw (p.1, p.2) (step _ _ _ _ c.in_ok-platform.ensures (stop _ _ _ c.in_err-root.ensures.told))

pub returns-in_err-all_listed-clause-told : goal.returns-in_err-all_listed-clause-told
unfolding system_told
returns-in_err-all_listed-clause-told c =
    let p = err_from_is_err_and c.from_residual-in_err-all_listed.result c.from_residual-in_err-all_listed.ensures.1 in
    rw (p.1, p.2) (step _ _ _ _ c.in_ok-platform.ensures (step _ _ _ _ c.in_ok-root.ensures.told (stop _ _ _ c.in_err-all_listed.ensures)))

pub returns-clause-told : goal.returns-clause-told
unfolding system_told
returns-clause-told c =
    step _ _ _ _ c.in_ok-platform.ensures (step _ _ _ _ c.in_ok-root.ensures.told (step _ _ _ _ c.in_ok-all_listed.ensures (ended _)))
