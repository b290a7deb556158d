-- A name that isn't listed is at fault only where identity, lists and settings are told.
use Rattle.std.proofs.lemmas.Result.{err_from_is_err_and}
use Rattle.jh_spec.specs.Cells.{cell_told}
use Rattle.jh_spec.proofs.Steps.{step, stop, ended}
use Rattle.jh_spec.proofs.cell.cell.Goals as goal

pub returns-in_err-name-clause-told : goal.returns-in_err-name-clause-told
unfolding cell_told
returns-in_err-name-clause-told c =
    let p = err_from_is_err_and c.from_residual.result c.from_residual.ensures.1 in
    rw (p.1, p.2) (stop _ _ _ c.in_err-name.ensures.told)

pub returns-in_err-memory_regions-clause-told : goal.returns-in_err-memory_regions-clause-told
unfolding cell_told
returns-in_err-memory_regions-clause-told c =
    let p = err_from_is_err_and c.from_residual-in_err-memory_regions.result c.from_residual-in_err-memory_regions.ensures.1 in
    rw (p.1, p.2) (step _ _ _ _ c.in_ok-name.ensures.told (stop _ _ _ c.in_err-memory_regions.ensures.told))

pub returns-in_err-vpci_irq_base-clause-told : goal.returns-in_err-vpci_irq_base-clause-told
unfolding cell_told
returns-in_err-vpci_irq_base-clause-told c =
    let p = err_from_is_err_and c.from_residual-in_err-vpci_irq_base.result c.from_residual-in_err-vpci_irq_base.ensures.1 in
    rw (p.1, p.2) (step _ _ _ _ c.in_ok-name.ensures.told (step _ _ _ _ c.in_ok-memory_regions.ensures.told (stop _ _ _ c.in_err-vpci_irq_base.ensures)))

pub returns-in_err-all_listed-clause-told : goal.returns-in_err-all_listed-clause-told
unfolding cell_told
returns-in_err-all_listed-clause-told c =
    let p = err_from_is_err_and c.from_residual-in_err-all_listed.result c.from_residual-in_err-all_listed.ensures.1 in
    rw (p.1, p.2) (step _ _ _ _ c.in_ok-name.ensures.told (step _ _ _ _ c.in_ok-memory_regions.ensures.told (step _ _ _ _ c.in_ok-vpci_irq_base.ensures (stop _ _ _ c.in_err-all_listed.ensures))))

pub returns-clause-told : goal.returns-clause-told
unfolding cell_told
returns-clause-told c =
    rw (c.new.ensures, c.new-2.ensures, c.new-3.ensures, c.new-4.ensures) (step _ _ _ _ c.in_ok-name.ensures.told (step _ _ _ _ c.in_ok-memory_regions.ensures.told (step _ _ _ _ c.in_ok-vpci_irq_base.ensures (step _ _ _ _ c.in_ok-all_listed.ensures (ended _)))))
