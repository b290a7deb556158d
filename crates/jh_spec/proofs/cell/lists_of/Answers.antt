-- Regions, irqchips, devices: the first list at fault is told, or all three are.
use Rattle.std.proofs.lemmas.Result.{err_from_is_err_and}
use Rattle.jh_spec.specs.Cells.{lists_told}
use Rattle.jh_spec.proofs.Steps.{step, stop, ended}
use Rattle.jh_spec.proofs.cell.lists_of.Goals as goal

pub returns-in_err-memory_regions-clause-told : goal.returns-in_err-memory_regions-clause-told
unfolding lists_told
returns-in_err-memory_regions-clause-told c =
    let p = err_from_is_err_and c.from_residual.result c.from_residual.ensures.1 in
    rw (p.1, p.2) (stop _ _ _ c.in_err-memory_regions.ensures.told)

pub returns-in_err-irqchips-clause-told : goal.returns-in_err-irqchips-clause-told
unfolding lists_told
returns-in_err-irqchips-clause-told c =
    let p = err_from_is_err_and c.from_residual-in_err-irqchips.result c.from_residual-in_err-irqchips.ensures.1 in
    rw (p.1, p.2) (step _ _ _ _ c.in_ok-memory_regions.ensures.told (stop _ _ _ c.in_err-irqchips.ensures.told))

pub returns-in_err-pci_devices-clause-told : goal.returns-in_err-pci_devices-clause-told
unfolding lists_told
returns-in_err-pci_devices-clause-told c =
    let p = err_from_is_err_and c.from_residual-in_err-pci_devices.result c.from_residual-in_err-pci_devices.ensures.1 in
    rw (p.1, p.2) (step _ _ _ _ c.in_ok-memory_regions.ensures.told (step _ _ _ _ c.in_ok-irqchips.ensures.told (stop _ _ _ c.in_err-pci_devices.ensures.told)))

pub returns-clause-told : goal.returns-clause-told
unfolding lists_told
returns-clause-told c = step _ _ _ _ c.in_ok-memory_regions.ensures.told (step _ _ _ _ c.in_ok-irqchips.ensures.told (step _ _ _ _ c.in_ok-pci_devices.ensures.told (ended _)))
