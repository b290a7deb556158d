-- Seven members before root, in the order of the table, up to the first at fault.
use Rattle.std.proofs.lemmas.Result.{err_from_is_err_and}
use Rattle.jh_spec.specs.Cells.{platform_told}
use Rattle.jh_spec.proofs.Steps.{step, stop, ended}
use Rattle.jh_spec.proofs.system.platform_of.Goals as goal

pub returns-in_err-flags : goal.returns-in_err-flags
unfolding platform_told
returns-in_err-flags c =
    let p = err_from_is_err_and c.from_residual.result c.from_residual.ensures.1 in
    rw (p.1, p.2) (stop _ _ _ c.in_err-flags.ensures)

pub returns-in_err-hypervisor_memory : goal.returns-in_err-hypervisor_memory
unfolding platform_told
returns-in_err-hypervisor_memory c =
    let p = err_from_is_err_and c.from_residual-in_err-hypervisor_memory.result c.from_residual-in_err-hypervisor_memory.ensures.1 in
    rw (p.1, p.2) (step _ _ _ _ c.in_ok-flags.ensures (stop _ _ _ c.in_err-hypervisor_memory.ensures))

pub returns-in_err-debug_console : goal.returns-in_err-debug_console
unfolding platform_told
returns-in_err-debug_console c =
    let p = err_from_is_err_and c.from_residual-in_err-debug_console.result c.from_residual-in_err-debug_console.ensures.1 in
    rw (p.1, p.2) (step _ _ _ _ c.in_ok-flags.ensures (step _ _ _ _ c.in_ok-hypervisor_memory.ensures (stop _ _ _ c.in_err-debug_console.ensures)))

pub returns-in_err-pci_mmconfig_base : goal.returns-in_err-pci_mmconfig_base
unfolding platform_told
returns-in_err-pci_mmconfig_base c =
    let p = err_from_is_err_and c.from_residual-in_err-pci_mmconfig_base.result c.from_residual-in_err-pci_mmconfig_base.ensures.1 in
    rw (p.1, p.2) (step _ _ _ _ c.in_ok-flags.ensures (step _ _ _ _ c.in_ok-hypervisor_memory.ensures (step _ _ _ _ c.in_ok-debug_console.ensures (stop _ _ _ c.in_err-pci_mmconfig_base.ensures))))

pub returns-in_err-pci_mmconfig_end_bus : goal.returns-in_err-pci_mmconfig_end_bus
unfolding platform_told
returns-in_err-pci_mmconfig_end_bus c =
    let p = err_from_is_err_and c.from_residual-in_err-pci_mmconfig_end_bus.result c.from_residual-in_err-pci_mmconfig_end_bus.ensures.1 in
    rw (p.1, p.2) (step _ _ _ _ c.in_ok-flags.ensures (step _ _ _ _ c.in_ok-hypervisor_memory.ensures (step _ _ _ _ c.in_ok-debug_console.ensures (step _ _ _ _ c.in_ok-pci_mmconfig_base.ensures (stop _ _ _ c.in_err-pci_mmconfig_end_bus.ensures)))))

pub returns-in_err-pci_is_virtual : goal.returns-in_err-pci_is_virtual
unfolding platform_told
returns-in_err-pci_is_virtual c =
    let p = err_from_is_err_and c.from_residual-in_err-pci_is_virtual.result c.from_residual-in_err-pci_is_virtual.ensures.1 in
    rw (p.1, p.2) (step _ _ _ _ c.in_ok-flags.ensures (step _ _ _ _ c.in_ok-hypervisor_memory.ensures (step _ _ _ _ c.in_ok-debug_console.ensures (step _ _ _ _ c.in_ok-pci_mmconfig_base.ensures (step _ _ _ _ c.in_ok-pci_mmconfig_end_bus.ensures (stop _ _ _ c.in_err-pci_is_virtual.ensures))))))

pub returns-in_err-pci_domain : goal.returns-in_err-pci_domain
unfolding platform_told
returns-in_err-pci_domain c =
    let p = err_from_is_err_and c.from_residual-in_err-pci_domain.result c.from_residual-in_err-pci_domain.ensures.1 in
    rw (p.1, p.2) (step _ _ _ _ c.in_ok-flags.ensures (step _ _ _ _ c.in_ok-hypervisor_memory.ensures (step _ _ _ _ c.in_ok-debug_console.ensures (step _ _ _ _ c.in_ok-pci_mmconfig_base.ensures (step _ _ _ _ c.in_ok-pci_mmconfig_end_bus.ensures (step _ _ _ _ c.in_ok-pci_is_virtual.ensures (stop _ _ _ c.in_err-pci_domain.ensures)))))))

pub returns : goal.returns
unfolding platform_told
returns c =
    step _ _ _ _ c.in_ok-flags.ensures (step _ _ _ _ c.in_ok-hypervisor_memory.ensures (step _ _ _ _ c.in_ok-debug_console.ensures (step _ _ _ _ c.in_ok-pci_mmconfig_base.ensures (step _ _ _ _ c.in_ok-pci_mmconfig_end_bus.ensures (step _ _ _ _ c.in_ok-pci_is_virtual.ensures (step _ _ _ _ c.in_ok-pci_domain.ensures (ended _)))))))
