-- Three numbers and the console, up to the first at fault, and then the console's bytes.
use Rattle.std.proofs.lemmas.Result.{err_from_is_err_and}
use Rattle.jh_spec.specs.Cells.{settings_told}
use Rattle.jh_spec.proofs.Steps.{step, stop, ended}
use Rattle.jh_spec.proofs.cell.settings_of.Goals as goal

pub returns-in_err-vpci_irq_base : goal.returns-in_err-vpci_irq_base
unfolding settings_told
returns-in_err-vpci_irq_base c =
    let p = err_from_is_err_and c.from_residual.result c.from_residual.ensures.1 in
    rw (p.1, p.2) (stop _ _ _ c.in_err-vpci_irq_base.ensures)

pub returns-in_err-cpu_reset_address : goal.returns-in_err-cpu_reset_address
unfolding settings_told
returns-in_err-cpu_reset_address c =
    let p = err_from_is_err_and c.from_residual-in_err-cpu_reset_address.result c.from_residual-in_err-cpu_reset_address.ensures.1 in
    rw (p.1, p.2) (step _ _ _ _ c.in_ok-vpci_irq_base.ensures (stop _ _ _ c.in_err-cpu_reset_address.ensures))

pub returns-in_err-msg_reply_timeout : goal.returns-in_err-msg_reply_timeout
unfolding settings_told
returns-in_err-msg_reply_timeout c =
    let p = err_from_is_err_and c.from_residual-in_err-msg_reply_timeout.result c.from_residual-in_err-msg_reply_timeout.ensures.1 in
    rw (p.1, p.2) (step _ _ _ _ c.in_ok-vpci_irq_base.ensures (step _ _ _ _ c.in_ok-cpu_reset_address.ensures (stop _ _ _ c.in_err-msg_reply_timeout.ensures)))

pub returns-in_err-console : goal.returns-in_err-console
unfolding settings_told
returns-in_err-console c =
    let p = err_from_is_err_and c.from_residual-in_err-console.result c.from_residual-in_err-console.ensures.1 in
    rw (p.1, p.2) (step _ _ _ _ c.in_ok-vpci_irq_base.ensures (step _ _ _ _ c.in_ok-cpu_reset_address.ensures (step _ _ _ _ c.in_ok-msg_reply_timeout.ensures (stop _ _ _ c.in_err-console.ensures))))

pub returns : goal.returns
unfolding settings_told
returns c =
    step _ _ _ _ c.in_ok-vpci_irq_base.ensures (step _ _ _ _ c.in_ok-cpu_reset_address.ensures (step _ _ _ _ c.in_ok-msg_reply_timeout.ensures (step _ _ _ _ c.in_ok-console.ensures (rw c.in_ok-console_bytes.ensures (ended _)))))
