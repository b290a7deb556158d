-- A key is the device's exactly where an endpoint is.
use Rattle.std.proofs.Common.{is_some, position, sym, ◌∙◌, ap, subst}
use Rattle.jh_ivshmem.specs.declared.change.Whom.TheVariants.{Device}
use Rattle.jh_ivshmem.specs.EndpointsView.{EndpointsView}
use Rattle.jh_ivshmem.specs.Links.{endpoint_at}
use Rattle.jh_ivshmem.specs.Private.Keys.{is_key_meant, AreInOrder}
use Rattle.jh_ivshmem.proofs.KeyLemmas.{found_some}
use Rattle.jh_ivshmem.proofs.OrderLemmas.{keys_in_order}
use Rattle.jh_ivshmem.proofs.endpoints.Endpoints.has.Goals as goal

pub returns : goal.returns
returns c =
    c.is_some.ensures
    ∙ found_some (Device c.args.cell c.args.device) c.self.inside.endpoints.items c.key_index.result
    (c.key_index.ensures ∙ ap (position (is_key_meant (Device c.args.cell c.args.device))) (c.deref.ensures.value ∙ c.self.invariant.keys))
    ∙ ap (λ (seen : EndpointsView). is_some (endpoint_at c.args.cell c.args.device seen.list)) c.self.view_is

pub key_index-requires : goal.key_index-requires
key_index-requires c =
    subst AreInOrder (sym c.deref.ensures.value) (keys_in_order c.self.inside.endpoints.items c.self.inside.keys.items c.self.invariant)
