-- A function that is present, or none.
use Rattle.std.proofs.Common.{ℕ, Option, refl, sym, ap, ◌∙◌}
use Rattle.std.specs.Option.{option_map_or}
use Rattle.jh_history.specs.Devices.{Devices}
use Rattle.jh_history.specs.Endpoints.{function_put}
use Rattle.jh_history.proofs.device_write.write_config.Goals as goal

pub returns-in-Some-clause-list : goal.returns-in-Some-clause-list
returns-in-Some-clause-list c =
    let d : Devices = record { cell = c.args.cell; list = c.args.list.now; endpoints = c.args.endpoints.now.list } in
    c.write_function.ensures.list d refl refl
    ∙ ap (λ (n : Option ℕ). option_map_or (function_put d c.args.bytes.now c.args.value) n d.endpoints) (sym c.in-Some.is ∙ c.function_number.ensures d refl)

pub returns-in-None-clause-list : goal.returns-in-None-clause-list
returns-in-None-clause-list c =
    let d : Devices = record { cell = c.args.cell; list = c.args.list.now; endpoints = c.args.endpoints.now.list } in
    ap (λ (n : Option ℕ). option_map_or (function_put d c.args.bytes.now c.args.value) n d.endpoints) (sym c.in-None.is ∙ c.function_number.ensures d refl)
