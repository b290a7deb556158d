-- Endpoint and key go to the same index, where the device's place in the order is.
use Rattle.std.proofs.Common.{◌≤◌, List, All, length, refl, sym, ◌∙◌, ap, subst}
use Rattle.std.specs.List.{insert}
use Rattle.jh_ivshmem.specs.declared.endpoint.Endpoint.{Endpoint}
use Rattle.jh_ivshmem.specs.declared.key.Key.{Key}
use Rattle.jh_ivshmem.specs.Specs.{AreEndpointsApart, is_device}
use Rattle.jh_ivshmem.specs.EndpointsView.{EndpointsView}
use Rattle.jh_ivshmem.specs.Private.Keys.{AreInOrder}
use Rattle.jh_ivshmem.specs.Links.{besides, joined}
use Rattle.jh_ivshmem.proofs.BesidesLemmas.{besides_joined, own_device}
use Rattle.jh_ivshmem.proofs.OrderLemmas.{IsIndex, Joins, joins, keys_in_order}
use Rattle.jh_ivshmem.proofs.endpoints.Endpoints.join.Goals as goal

pub insertion_index-index-requires : goal.insertion_index-index-requires
insertion_index-index-requires c =
    subst AreInOrder (sym (c.deref.ensures.value ∙ c.in_ok-make_room-2.ensures.items))
    (keys_in_order c.self.inside.endpoints.items c.self.inside.keys.items c.self.invariant)

joining : (c : goal.After-put-2) → Joins c.args.s c.self.inside.endpoints.items c.put.new.list.items c.put-2.new.list.items
joining c =
    let keys = c.deref.ensures.value ∙ c.in_ok-make_room-2.ensures.items in
    joins c.args.s c.self.inside.endpoints.items c.put.new.list.items c.self.inside.keys.items c.put-2.new.list.items
    c.new-endpoint.result c.of-key.result c.insertion_index-index.result c.self.invariant
    (subst (λ (l : List Key). c.insertion_index-index.result ≤ length l) keys c.insertion_index-index.ensures.bound)
    (subst (λ (l : List Key). IsIndex c.args.s.cell c.args.s.device l c.insertion_index-index.result) keys c.insertion_index-index.ensures.partition)
    c.new-endpoint.ensures c.of-key.ensures
    (c.put.ensures.items ∙ ap (λ (l : List Endpoint). insert l c.insertion_index-index.result c.new-endpoint.result) c.in_ok-make_room.ensures.items)
    (c.put-2.ensures.items ∙ ap (λ (l : List Key). insert l c.insertion_index-index.result c.of-key.result) c.in_ok-make_room-2.ensures.items)
    (record { vectors = refl; within = c.requires.within })
    (subst (λ (list : List Endpoint). All (λ (o : Endpoint). AreEndpointsApart o.spec c.args.s) list)
    (sym (ap (λ (seen : EndpointsView). seen.list) c.self.view_is)) c.requires.new)

pub invariant_of-self-2 : goal.invariant_of-self-2
invariant_of-self-2 c = (joining c).kept

pub returns-clause-ok : goal.returns-clause-ok
returns-clause-ok c = (joining c).list ∙ ap (joined c.args.s) (ap (λ (seen : EndpointsView). seen.list) c.self.view_is)

pub returns-clause-others : goal.returns-clause-others
returns-clause-others c =
    ap (besides (is_device c.args.s.cell c.args.s.device)) (returns-clause-ok c)
    ∙ besides_joined (is_device c.args.s.cell c.args.s.device) c.args.s (own_device c.args.s) c.args.self.now.list
