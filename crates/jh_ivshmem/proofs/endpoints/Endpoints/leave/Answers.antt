-- The others of the link are told, and then the endpoint and its key are dropped.
use Rattle.std.proofs.Common.{◌≡◌, filter, not, ◌∙◌, ap}
use Rattle.jh_ivshmem.specs.declared.endpoint.Endpoint.{Endpoint}
use Rattle.jh_ivshmem.specs.Specs.{is_device, is_concerned}
use Rattle.jh_ivshmem.specs.EndpointsView.{EndpointsView}
use Rattle.jh_ivshmem.specs.Links.{told_of, besides}
use Rattle.jh_ivshmem.proofs.BesidesLemmas.{besides_left}
use Rattle.jh_ivshmem.proofs.NamedLemmas.{by_own_name}
use Rattle.jh_ivshmem.proofs.endpoints.Endpoints.leave.Goals as goal

pub invariant_of-self : goal.invariant_of-self
invariant_of-self c = c.drop_endpoint.ensures.kept

pub returns-clause-list : goal.returns-clause-list
returns-clause-list c = λ e named.
    by_own_name (λ cell device. c.drop_endpoint.new.endpoints.items
    ≡ filter (λ (o : Endpoint). not (is_device cell device o.spec)) (told_of e 0 c.args.self.now.list))
    c.args.cell c.args.device c.args.self.now.list e named
    (c.drop_endpoint.ensures.list
    ∙ ap (filter (λ (o : Endpoint). not (is_device c.args.cell c.args.device o.spec)))
    (ap (λ (seen : EndpointsView). seen.list) c.self.view_is ∙ c.tell-word.ensures.list e named))

pub returns-clause-others : goal.returns-clause-others
returns-clause-others c = λ e named. ap (besides (is_concerned e.spec)) (returns-clause-list c e named) ∙ besides_left e c.args.self.now.list
