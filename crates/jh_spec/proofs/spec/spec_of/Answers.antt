-- The kind that is found decides what is read, whose answer or fault is the object's.
use Rattle.std.proofs.lemmas.Result.{err_from_is_err_and}
use Rattle.jh_spec.proofs.KindLemmas.{cell_by, system_by}
use Rattle.jh_spec.proofs.Steps.{step, stop, ended}
use Rattle.jh_spec.proofs.spec.spec_of.Goals as goal

pub returns-in_err-cell-in-Some-Cell-clause-told : goal.returns-in_err-cell-in-Some-Cell-clause-told
returns-in_err-cell-in-Some-Cell-clause-told c =
    let p = err_from_is_err_and c.from_residual.result c.from_residual.ensures.1 in
    cell_by _ _ _ (rw c.in-Some-Cell.field-0-is at c.in-Some-Cell.ensures) (rw (p.1, p.2) (stop _ _ _ c.in_err-cell-in-Some-Cell.ensures.told))

pub returns-in_err-system-in-Some-System-clause-told : goal.returns-in_err-system-in-Some-System-clause-told
returns-in_err-system-in-Some-System-clause-told c =
    let p = err_from_is_err_and c.from_residual-in_err-system-in-Some-System.result c.from_residual-in_err-system-in-Some-System.ensures.1 in
    system_by _ _ _ (rw c.in-Some-System.field-0-is at c.in-Some-System.ensures) (rw (p.1, p.2) (stop _ _ _ c.in_err-system-in-Some-System.ensures.told))

pub returns-in_ok-cell-in-Some-Cell-clause-told : goal.returns-in_ok-cell-in-Some-Cell-clause-told
returns-in_ok-cell-in-Some-Cell-clause-told c = cell_by _ _ _ (rw c.in-Some-Cell.field-0-is at c.in-Some-Cell.ensures) (step _ _ _ _ c.in_ok-cell-in-Some-Cell.ensures.told (ended _))

pub returns-in_ok-system-in-Some-System-clause-told : goal.returns-in_ok-system-in-Some-System-clause-told
returns-in_ok-system-in-Some-System-clause-told c = system_by _ _ _ (rw c.in-Some-System.field-0-is at c.in-Some-System.ensures) (step _ _ _ _ c.in_ok-system-in-Some-System.ensures.told (ended _))
