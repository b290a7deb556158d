-- A key's index is its endpoint's, and a device without a key would have no endpoint.
use Rattle.std.proofs.Common.{◌≡◌, ◌<◌, ℕ, List, Some, None, IsSome, position, map, length, sym, ◌∙◌, ap, subst}
use Rattle.std.specs.List.{slice_get}
use Rattle.jh_ivshmem.specs.declared.change.Whom.TheVariants.{Device}
use Rattle.jh_ivshmem.specs.declared.endpoint.Endpoint.{Endpoint}
use Rattle.jh_ivshmem.specs.EndpointsView.{EndpointsView}
use Rattle.jh_ivshmem.specs.Links.{endpoint_at}
use Rattle.jh_ivshmem.specs.Keys.{key_of}
use Rattle.jh_ivshmem.specs.Private.Keys.{is_key_meant, AreInOrder}
use Rattle.jh_ivshmem.proofs.KeyLemmas.{found_at, found_none, found_within}
use Rattle.jh_ivshmem.proofs.OrderLemmas.{keys_in_order}
use Rattle.jh_ivshmem.proofs.endpoints.Endpoints.index_of.Goals as goal

absurd_some : IsSome {T = Endpoint} None → ⊥
absurd_some h = cc

no_some : (list : List Endpoint) (cell device : ℕ) → endpoint_at cell device list ≡ None → IsSome (endpoint_at cell device list) → ⊥
no_some list cell device none some = absurd_some (rw none at some)

pub unreachable-requires : goal.unreachable-requires
unreachable-requires c =
    let whom = Device c.args.cell c.args.device in
    let none = ap (position (is_key_meant whom)) (sym (c.deref.ensures.value ∙ c.self.invariant.keys))
    ∙ sym c.key_index.ensures ∙ c.in-None.is in
    let listed = ap (λ (seen : EndpointsView). seen.list) c.self.view_is in
    no_some c.args.self.now.list c.args.cell c.args.device
    (ap (endpoint_at c.args.cell c.args.device) (sym listed) ∙ found_none whom c.self.inside.endpoints.items none)
    c.requires.there

found : (c : goal.In-Some) → position (is_key_meant (Device c.args.cell c.args.device)) (map key_of c.self.inside.endpoints.items) ≡ Some c.in-Some.i
found c =
    ap (position (is_key_meant (Device c.args.cell c.args.device))) (sym (c.deref.ensures.value ∙ c.self.invariant.keys))
    ∙ sym c.key_index.ensures ∙ c.in-Some.is

pub returns-clause-value : goal.returns-clause-value
returns-clause-value c =
    subst (λ (list : List Endpoint). slice_get list c.in-Some.i ≡ endpoint_at c.args.cell c.args.device list)
    (ap (λ (seen : EndpointsView). seen.list) c.self.view_is)
    (sym (found_at (Device c.args.cell c.args.device) c.self.inside.endpoints.items c.in-Some.i (found c)))

pub returns-clause-bound : goal.returns-clause-bound
returns-clause-bound c =
    subst (λ (list : List Endpoint). c.in-Some.i < length list)
    (ap (λ (seen : EndpointsView). seen.list) c.self.view_is)
    (found_within (Device c.args.cell c.args.device) c.self.inside.endpoints.items c.in-Some.i (found c))

pub key_index-requires : goal.key_index-requires
key_index-requires c =
    subst AreInOrder (sym c.deref.ensures.value) (keys_in_order c.self.inside.endpoints.items c.self.inside.keys.items c.self.invariant)
