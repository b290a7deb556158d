-- The device's word is the one that is held.
use Rattle.std.proofs.Common.{List, [], ap, sym, subst, ◌∙◌}
use Rattle.std.specs.Prelude.{All}
use Rattle.std.specs.Option.{option_to_list}
use Rattle.std.proofs.lemmas.List.Elements.{All-head}
use Rattle.jh_ivshmem.specs.declared.spec.EndpointSpec.{EndpointSpec}
use Rattle.jh_ivshmem.specs.declared.spec.EndpointWord.{EndpointWord}
use Rattle.jh_history.specs.Devices.{specs_at}
use Rattle.jh_board.specs.Private.Pages.{MayHoldEndpointWord, MayHoldWordOf}
use Rattle.jh_board.proofs.DevicesLemmas.{one_word}
use Rattle.jh_board.proofs.devices.hold_device.Goals as goal

pub hold_endpoint_word-requires-clause-may : goal.hold_endpoint_word-requires-clause-may
hold_endpoint_word-requires-clause-may c =
    let memory = c.args.memory.now in
    let P : List EndpointSpec → Type 0 = All (MayHoldWordOf memory) in
    let Q : EndpointWord → Type 0 = MayHoldEndpointWord memory in
    subst Q (sym c.cleared_word.ensures) (All-head (MayHoldWordOf memory) c.in-Some.spec [] (subst P (sym (ap option_to_list (sym c.in-Some.is) ∙ c.spec_at.ensures)) c.requires.beside))

pub returns-in-Some-clause-held : goal.returns-in-Some-clause-held
returns-in-Some-clause-held c =
    one_word c.hold_endpoint_word.result c.hold_endpoint_word.new.self c.in-Some.spec c.cleared_word.result (specs_at c.args.config.now c.args.number) c.cleared_word.ensures
    (ap option_to_list (sym c.in-Some.is) ∙ c.spec_at.ensures) c.hold_endpoint_word.ensures.held
