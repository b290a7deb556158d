-- The configuration space of one endpoint, lent to be written.
use Rattle.std.specs.Prelude.{ℕ}
use Rattle.std.specs.Borrow.{Lends, MutBor, Fml}
use Rattle.jh_vpci.specs.Space.{Space}
use Rattle.jh_vpci.specs.contracts.config.ConfigSpace as config
use Rattle.jh_ivshmem.specs.contracts.endpoints.Endpoints as endpoints
use Rattle.jh_ivshmem.specs.EndpointsView.{EndpointsView}
use Rattle.jh_ivshmem.specs.Links.{configured}

-- the endpoint of this device of this cell has this configuration space, all else is as it was
abbrev pub with_space : ℕ → ℕ → Space → EndpointsView → EndpointsView
with_space cell device space seen = record seen { list = configured cell device space seen.list }

-- what is last written through r is the configuration space of the endpoint
abbrev pub LendsSpace : MutBor EndpointsView → ℕ → ℕ → MutBor Space → Fml
LendsSpace links cell device r =
    Lends endpoints.the_row config.the_row links r (λ space. with_space cell device space links.now)
