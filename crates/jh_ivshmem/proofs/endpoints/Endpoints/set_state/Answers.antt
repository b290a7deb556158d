-- The others are told before the state is set, whether or not a slot is answered.
use Rattle.std.proofs.Common.{◌≡◌, ◌∙◌, ap}
use Rattle.jh_ivshmem.specs.declared.endpoint.Endpoint.{Endpoint}
use Rattle.jh_ivshmem.specs.Specs.{is_device}
use Rattle.jh_ivshmem.specs.Changes.{changed}
use Rattle.jh_ivshmem.specs.Links.{told_of}
use Rattle.jh_ivshmem.proofs.NamedLemmas.{by_own_name}
use Rattle.jh_ivshmem.proofs.endpoints.Endpoints.set_state.Goals as goal

pub returns-then-had-value-clause-list : goal.returns-then-had-value-clause-list
returns-then-had-value-clause-list c = λ e named.
    by_own_name (λ cell device. c.change.new.self.list
    ≡ changed (is_device cell device) (λ (o : Endpoint). record o { state = c.args.value }) (told_of e c.args.value c.args.self.now.list))
    c.args.cell c.args.device c.args.self.now.list e named
    (c.change.ensures.list ∙ ap (changed (is_device c.args.cell c.args.device) (λ (o : Endpoint). record o { state = c.args.value }))
    (c.tell-word.ensures.list e named))

pub returns-else-had-value-clause-list : goal.returns-else-had-value-clause-list
returns-else-had-value-clause-list c = λ e named.
    by_own_name (λ cell device. c.change.new.self.list
    ≡ changed (is_device cell device) (λ (o : Endpoint). record o { state = c.args.value }) (told_of e c.args.value c.args.self.now.list))
    c.args.cell c.args.device c.args.self.now.list e named
    (c.change.ensures.list ∙ ap (changed (is_device c.args.cell c.args.device) (λ (o : Endpoint). record o { state = c.args.value }))
    (c.tell-word.ensures.list e named))
