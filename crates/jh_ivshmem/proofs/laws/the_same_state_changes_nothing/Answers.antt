-- Nobody is told of a state that stays, and the endpoint is set to what it was.
use Rattle.std.proofs.Common.{◌≡◌, ℕ, true, List, Some, AllPairs, map, set, refl, sym, ◌∙◌, ap, subst}
use Rattle.std.specs.List.{position_or_len}
use Rattle.std.proofs.lemmas.List.{set-get_or}
use Rattle.std.proofs.lemmas.List.Folds.{find_at}
use Rattle.std.proofs.lemmas.Option.{get_or_from_slice_get, slice_get_within}
use Rattle.jh_num.proofs.Public.{same_number}
use Rattle.jh_ivshmem.specs.declared.endpoint.Endpoint.{Endpoint}
use Rattle.jh_ivshmem.specs.Specs.{is_device, AreEndpointsApart}
use Rattle.jh_ivshmem.specs.Changes.{changed}
use Rattle.jh_ivshmem.specs.Links.{written, told_of, endpoint_at}
use Rattle.jh_ivshmem.specs.EndpointsView.{EndpointsView}
use Rattle.jh_ivshmem.proofs.ApartLemmas.{set_device}
use Rattle.jh_ivshmem.proofs.laws.the_same_state_changes_nothing.Goals as goal

untold : (e : Endpoint) (list : List Endpoint) → told_of e e.state list ≡ list
untold e list = rw (same_number e.state) refl

-- the endpoint itself gets the state that it has
itself : (cell device : ℕ) (list : List Endpoint) (e : Endpoint) → AllPairs AreEndpointsApart (map (λ (o : Endpoint). o.spec) list)
    → endpoint_at cell device list ≡ Some e
    → changed (is_device e.spec.cell e.spec.device) (λ (o : Endpoint). record o { state = e.state }) list ≡ list
itself cell device list e apart named =
    let index = position_or_len (λ (o : Endpoint). is_device cell device o.spec) list in
    let there = sym (find_at (λ (o : Endpoint). is_device cell device o.spec) list) ∙ named in
    let within = slice_get_within list (position_or_len (λ (o : Endpoint). is_device cell device o.spec) list) e there in
    let read = sym (get_or_from_slice_get list (position_or_len (λ (o : Endpoint). is_device cell device o.spec) list) e e there) in
    let own : is_device e.spec.cell e.spec.device e.spec ≡ true = rw (same_number e.spec.cell, same_number e.spec.device) refl in
    sym (set_device e.spec.cell e.spec.device (λ (o : Endpoint). record o { state = e.state }) list
    (position_or_len (λ (o : Endpoint). is_device cell device o.spec) list) e apart within read own)
    ∙ ap (λ (o : Endpoint). set list (position_or_len (λ (o : Endpoint). is_device cell device o.spec) list) o) read
    ∙ set-get_or list (position_or_len (λ (o : Endpoint). is_device cell device o.spec) list) e

pub returns : goal.returns
unfolding written
returns c = λ e named.
    ap (changed (is_device e.spec.cell e.spec.device) (λ (o : Endpoint). record o { state = e.state }))
    (untold e c.args._links.now.list)
    ∙ itself c.args._cell c.args._device c.args._links.now.list e
    (subst (λ (list : List Endpoint). AllPairs AreEndpointsApart (map (λ (o : Endpoint). o.spec) list))
    (ap (λ (seen : EndpointsView). seen.list) c._links.view_is) c._links.invariant.apart)
    named
