-- The word is the one of the device's endpoint, where it has one.
use Rattle.std.proofs.Common.{List, [], ap, sym, subst}
use Rattle.std.specs.Prelude.{All}
use Rattle.std.proofs.lemmas.List.Elements.{All-head}
use Rattle.jh_ivshmem.specs.declared.spec.EndpointSpec.{EndpointSpec}
use Rattle.jh_ivshmem.specs.declared.spec.EndpointWord.{EndpointWord}
use Rattle.jh_history.specs.Endpoints.{with_words}
use Rattle.jh_board.specs.Pages.{byte_of, HoldsEndpointWord, HoldsWordOf}
use Rattle.jh_board.proofs.devices.change_device.Goals as goal

pub returns-in_default-clause-bytes : goal.returns-in_default-clause-bytes
returns-in_default-clause-bytes c = λ q. ap (λ (specs : List EndpointSpec). with_words specs (byte_of c.args.memory.now) q) c.in_default.ensures

pub write_endpoint_word-requires-clause-held : goal.write_endpoint_word-requires-clause-held
write_endpoint_word-requires-clause-held c =
    let memory = c.args.memory.now in
    let P : List EndpointSpec → Type 0 = All (HoldsWordOf memory) in
    let Q : EndpointWord → Type 0 = HoldsEndpointWord memory in
    subst Q (sym c.in-Ok.ensures.word) (All-head (HoldsWordOf memory) c.in-Some.spec [] (subst P (sym c.in-Some.ensures) c.requires.held))
