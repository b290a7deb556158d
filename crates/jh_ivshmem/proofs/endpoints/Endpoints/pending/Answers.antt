-- A key tells its endpoint's pending vector, so the earliest by the keys is the endpoints'.
use Rattle.std.proofs.Common.{None, fold, sym, ◌∙◌, ap, subst}
use Rattle.std.proofs.lemmas.List.Folds.{fold-map}
use Rattle.jh_ivshmem.specs.declared.key.Key.{Key}
use Rattle.jh_ivshmem.specs.Keys.{key_of}
use Rattle.jh_ivshmem.specs.Private.Keys.{pending_by, AreInOrder}
use Rattle.jh_ivshmem.specs.Links.{earlier, pending_of}
use Rattle.jh_ivshmem.specs.EndpointsView.{EndpointsView}
use Rattle.jh_ivshmem.proofs.OrderLemmas.{keys_in_order}
use Rattle.jh_ivshmem.proofs.endpoints.Endpoints.pending.Goals as goal

pub returns : goal.returns
returns c =
    c.first_pending.ensures
    ∙ ap (fold (λ best (key : Key). earlier best (pending_by c.args.cell key)) None) (c.deref.ensures.value ∙ c.self.invariant.keys)
    ∙ fold-map (λ best (key : Key). earlier best (pending_by c.args.cell key)) key_of None c.self.inside.endpoints.items
    ∙ ap (λ (seen : EndpointsView). pending_of c.args.cell seen.list) c.self.view_is

pub first_pending-requires : goal.first_pending-requires
first_pending-requires c =
    subst AreInOrder (sym c.deref.ensures.value) (keys_in_order c.self.inside.endpoints.items c.self.inside.keys.items c.self.invariant)
