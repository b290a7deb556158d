-- Whatever space is written, it is the named endpoint's alone, and the keys still fit.
use Rattle.std.proofs.Common.{◌≡◌, List, Some, length, set, refl, sym, ◌∙◌, ap}
use Rattle.std.proofs.lemmas.Option.{slice_get_read}
use Rattle.jh_vpci.specs.Space.{Space}
use Rattle.jh_ivshmem.specs.declared.endpoint.Endpoint.{Endpoint}
use Rattle.jh_ivshmem.specs.Specs.{is_device}
use Rattle.jh_ivshmem.specs.contracts.endpoints.Endpoints.{the_view}
use Rattle.jh_ivshmem.specs.Changes.{changed}
use Rattle.jh_ivshmem.specs.EndpointsView.{EndpointsView}
use Rattle.jh_ivshmem.specs.Links.{endpoint_at}
use Rattle.jh_ivshmem.specs.Lending.{with_space}
use Rattle.jh_ivshmem.proofs.ApartLemmas.{set_device}
use Rattle.jh_ivshmem.proofs.BesidesLemmas.{besides_changed}
use Rattle.jh_ivshmem.proofs.KeyLemmas.{kept_space}
use Rattle.jh_ivshmem.proofs.LoopLemmas.{sound_at}
use Rattle.jh_ivshmem.proofs.NamedLemmas.{passes, same_found}
use Rattle.jh_ivshmem.proofs.endpoints.Endpoints.config_mut.Goals as goal

found : (c : goal.After-self-2-1) → endpoint_at c.args.cell c.args.device c.args.self.now.list ≡ Some c.index_mut-endpoint.result.now
found c =
    ap (λ (seen : EndpointsView). endpoint_at c.args.cell c.args.device seen.list) (sym c.self.view_is)
    ∙ sym c.index_of-i.ensures.value
    ∙ slice_get_read c.self.inside.endpoints.items (length c.self.inside.endpoints.items) c.index_of-i.result
    c.index_mut-endpoint.result.now refl c.index_of-i.ensures.bound c.index_mut-endpoint.ensures.value

pub invariant_of-self-lent : goal.invariant_of-self-lent
invariant_of-self-lent c = λ w.
    kept_space c.self.inside.endpoints.items c.self.inside.keys.items c.index_of-i.result c.index_mut-endpoint.result.now w
    c.self.invariant
    (sound_at c.self.inside.endpoints.items c.self.inside.keys.items c.index_of-i.result c.index_mut-endpoint.result.now
    c.self.invariant c.index_of-i.ensures.bound c.index_mut-endpoint.ensures.value)
    c.index_mut-endpoint.ensures.value

-- the list, as it is written through the result
listed : (c : goal.After-self-2-1) (w : Space)
    → set c.self.inside.endpoints.items c.index_of-i.result (record c.index_mut-endpoint.result.now { space = w })
    ≡ changed (is_device c.args.cell c.args.device) (λ (e : Endpoint). record e { space = w }) c.self.inside.endpoints.items
listed c w =
    set_device c.args.cell c.args.device (λ (e : Endpoint). record e { space = w }) c.self.inside.endpoints.items c.index_of-i.result
    c.index_mut-endpoint.result.now c.self.invariant.apart c.index_of-i.ensures.bound c.index_mut-endpoint.ensures.value
    (passes c.args.cell c.args.device c.args.self.now.list c.index_mut-endpoint.result.now (found c))

pub returns : goal.returns
returns c = (
  (
    refl,
    λ w. ap (λ (list : List Endpoint). record (the_view c.self.inside) { list = list }) (listed c w)
        ∙ ap (λ (seen : EndpointsView). with_space c.args.cell c.args.device w seen) c.self.view_is,
  ),
  record { value = λ e named. ap (λ (o : Endpoint). o.space) (same_found c.args.cell c.args.device c.args.self.now.list e c.index_mut-endpoint.result.now named (found c)); others = λ space. besides_changed (is_device c.args.cell c.args.device) (is_device c.args.cell c.args.device) (λ (e : Endpoint). record e { space = space }) (λ e. refl) (λ s h. h) c.args.self.now.list; writes_back = tt },
)
