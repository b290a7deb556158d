-- An endpoint is raised where it has the target's number, which no two that are apart share.
use Rattle.std.proofs.Common.{List, AllPairs, map, sym, ◌∙◌, ap, subst}
use Rattle.std.proofs.lemmas.Option.{get_or_from_slice_get, slice_get_within}
use Rattle.jh_ivshmem.specs.declared.endpoint.Endpoint.{Endpoint}
use Rattle.jh_ivshmem.specs.Specs.{is_peer, AreEndpointsApart}
use Rattle.jh_ivshmem.specs.Endpoint.{raised}
use Rattle.jh_ivshmem.specs.EndpointsView.{EndpointsView}
use Rattle.jh_ivshmem.proofs.ApartLemmas.{single, peers_apart}
use Rattle.jh_ivshmem.proofs.LawLemmas.{meant_get, stays_get}
use Rattle.jh_ivshmem.proofs.laws.a_doorbell_reaches_one_endpoint.Goals as goal

pub returns-clause-target : goal.returns-clause-target
returns-clause-target c = λ bdf target v k e found here. meant_get (is_peer bdf target) (raised v) c.args._links.now.list k e found here

pub returns-clause-others : goal.returns-clause-others
returns-clause-others c = λ bdf target v k e found other. stays_get (is_peer bdf target) (raised v) c.args._links.now.list k e found other

pub returns-clause-one : goal.returns-clause-one
returns-clause-one c = λ bdf target i k e o first second other here.
    ap (λ (x : Endpoint). is_peer bdf target x.spec) (sym (get_or_from_slice_get c.args._links.now.list k o o second))
    ∙ single (is_peer bdf target) (peers_apart bdf target) c.args._links.now.list i k o
    (subst (λ (list : List Endpoint). AllPairs AreEndpointsApart (map (λ (x : Endpoint). x.spec) list))
    (ap (λ (seen : EndpointsView). seen.list) c._links.view_is) c._links.invariant.apart)
    (slice_get_within c.args._links.now.list i e first)
    (ap (λ (x : Endpoint). is_peer bdf target x.spec) (get_or_from_slice_get c.args._links.now.list i e o first) ∙ here)
    (slice_get_within c.args._links.now.list k o second) other
