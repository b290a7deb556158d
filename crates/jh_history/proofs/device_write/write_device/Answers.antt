-- A register that is written.
use Rattle.std.proofs.Common.{refl, sym, ap, ◌∙◌}
use Rattle.jh_history.specs.declared.access.Reach.{Reach}
use Rattle.jh_history.specs.Access.{endpoint_word_of_reach}
use Rattle.jh_history.specs.Devices.{Devices}
use Rattle.jh_history.specs.Endpoints.{endpoints_put}
use Rattle.jh_history.proofs.device_write.write_device.Goals as goal

pub returns-in-Window-clause-list : goal.returns-in-Window-clause-list
returns-in-Window-clause-list c =
    let d : Devices = record { cell = c.args.cell; list = c.args.list.now; endpoints = c.args.endpoints.now.list } in
    c.write_register.ensures.list d refl refl ∙ ap (λ (r : Reach). endpoints_put d r c.args.value) (sym c.in-Window.is)

pub returns-in-Window-clause-word : goal.returns-in-Window-clause-word
returns-in-Window-clause-word c =
    let d : Devices = record { cell = c.args.cell; list = c.args.list.now; endpoints = c.args.endpoints.now.list } in
    c.write_register.ensures.word d refl refl ∙ ap (λ (r : Reach). endpoint_word_of_reach d r c.args.value) (sym c.in-Window.is)
