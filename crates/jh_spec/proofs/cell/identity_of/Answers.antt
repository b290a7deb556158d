-- Name, id, flags, bitmap's size and CPUs, in this order, up to the first at fault.
use Rattle.std.proofs.lemmas.Result.{err_from_is_err_and}
use Rattle.jh_spec.specs.Cells.{identity_told}
use Rattle.jh_spec.proofs.Steps.{step, stop, ended}
use Rattle.jh_spec.proofs.cell.identity_of.Goals as goal

pub returns-in_err-name-clause-told : goal.returns-in_err-name-clause-told
unfolding identity_told
returns-in_err-name-clause-told c =
    let p = err_from_is_err_and c.from_residual.result c.from_residual.ensures.1 in
    rw (p.1, p.2) (stop _ _ _ (rw c.cell_name.ensures.told at c.in_err-name.ensures.answer))

pub returns-in_err-id-clause-told : goal.returns-in_err-id-clause-told
unfolding identity_told
returns-in_err-id-clause-told c =
    let p = err_from_is_err_and c.from_residual-in_err-id.result c.from_residual-in_err-id.ensures.1 in
    rw (p.1, p.2) (step _ _ _ _ (rw c.cell_name.ensures.told at c.in_ok-name.ensures.answer) (stop _ _ _ c.in_err-id.ensures))

pub returns-in_err-flags-clause-told : goal.returns-in_err-flags-clause-told
unfolding identity_told
returns-in_err-flags-clause-told c =
    let p = err_from_is_err_and c.from_residual-in_err-flags.result c.from_residual-in_err-flags.ensures.1 in
    rw (p.1, p.2) (step _ _ _ _ (rw c.cell_name.ensures.told at c.in_ok-name.ensures.answer) (step _ _ _ _ c.in_ok-id.ensures (stop _ _ _ c.in_err-flags.ensures)))

pub returns-in_err-bytes-clause-told : goal.returns-in_err-bytes-clause-told
unfolding identity_told
returns-in_err-bytes-clause-told c =
    let p = err_from_is_err_and c.from_residual-in_err-bytes.result c.from_residual-in_err-bytes.ensures.1 in
    rw (p.1, p.2) (step _ _ _ _ (rw c.cell_name.ensures.told at c.in_ok-name.ensures.answer) (step _ _ _ _ c.in_ok-id.ensures (step _ _ _ _ c.in_ok-flags.ensures (stop _ _ _ (rw c.cpu_set_size.ensures.value at c.in_err-bytes.ensures.answer)))))

pub returns-in_err-cpu_set-2-clause-told : goal.returns-in_err-cpu_set-2-clause-told
unfolding identity_told
returns-in_err-cpu_set-2-clause-told c =
    let p = err_from_is_err_and c.from_residual-in_err-cpu_set-2.result c.from_residual-in_err-cpu_set-2.ensures.1 in
    rw (p.1, p.2) (step _ _ _ _ (rw c.cell_name.ensures.told at c.in_ok-name.ensures.answer) (step _ _ _ _ c.in_ok-id.ensures (step _ _ _ _ c.in_ok-flags.ensures (step _ _ _ _ (rw c.cpu_set_size.ensures.value at c.in_ok-bytes.ensures.answer) (stop _ _ _ (rw c.in_ok-cpu_set.ensures.told at c.in_err-cpu_set-2.ensures.answer))))))

pub returns-clause-told : goal.returns-clause-told
unfolding identity_told
returns-clause-told c =
    step _ _ _ _ (rw c.cell_name.ensures.told at c.in_ok-name.ensures.answer) (step _ _ _ _ c.in_ok-id.ensures (step _ _ _ _ c.in_ok-flags.ensures (step _ _ _ _ (rw c.cpu_set_size.ensures.value at c.in_ok-bytes.ensures.answer) (step _ _ _ _ (rw c.in_ok-cpu_set.ensures.told at c.in_ok-cpu_set-2.ensures.answer) (ended _)))))
