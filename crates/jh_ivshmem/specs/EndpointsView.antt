-- What contracts see of the endpoints.
use Rattle.std.specs.Prelude.{ℕ, List}
use Rattle.jh_ivshmem.specs.declared.endpoint.Endpoint.{Endpoint}

-- the endpoints in the order of their cells and in each of its devices, and how many more may join without memory
pub record EndpointsView : Type 0 where
  pub list : List Endpoint
  pub spare : ℕ
