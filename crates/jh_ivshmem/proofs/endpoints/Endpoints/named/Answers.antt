-- At the device's index stands its endpoint, whole as each that is kept.
use Rattle.std.proofs.Common.{◌<◌, List, length, get_or, refl, sym, ◌∙◌, ap, subst}
use Rattle.std.proofs.lemmas.Option.{slice_get_read}
use Rattle.jh_ivshmem.specs.declared.endpoint.Endpoint.{Endpoint}
use Rattle.jh_ivshmem.specs.EndpointsView.{EndpointsView}
use Rattle.jh_ivshmem.proofs.LoopLemmas.{sound_at}
use Rattle.jh_ivshmem.proofs.endpoints.Endpoints.named.Goals as goal

pub returns-clause-value : goal.returns-clause-value
returns-clause-value c =
    sym c.index_of.ensures.value
    ∙ slice_get_read c.args.self.now.list (length c.args.self.now.list) c.index_of.result c.index.result.now refl
    c.index_of.ensures.bound
    (c.index.ensures ∙ ap (λ (seen : EndpointsView). get_or seen.list c.index_of.result c.index.result.now) c.self.view_is)

pub returns-clause-sound : goal.returns-clause-sound
returns-clause-sound c =
    sound_at c.self.inside.endpoints.items c.self.inside.keys.items c.index_of.result c.index.result.now c.self.invariant
    (subst (λ (list : List Endpoint). c.index_of.result < length list) (sym (ap (λ (seen : EndpointsView). seen.list) c.self.view_is))
    c.index_of.ensures.bound)
    c.index.ensures
