-- What is kept beside the endpoints, so that a scan doesn't touch them.
use Rattle.std.specs.Prelude.{◌≡◌, List, All, AllPairs, length, map}
use Rattle.jh_ivshmem.specs.declared.endpoint.Endpoint.{Endpoint}
use Rattle.jh_ivshmem.specs.declared.key.Key.{Key}
use Rattle.jh_ivshmem.specs.Specs.{IsInItsLimits, AreEndpointsApart, IsBefore}
use Rattle.jh_ivshmem.specs.Endpoint.{pending_in}

-- the key of the endpoint: its cell, its device, its bdf, its number, and its lowest pending vector
abbrev pub key_of : Endpoint → Key
key_of e = record {
  cell = e.spec.cell;
  device = e.spec.device;
  bdf = e.spec.bdf;
  id = e.spec.id;
  pending = pending_in e;
}

-- the endpoint has room for 16 vectors, and is within its limits
pub record IsWholeEndpoint (e : Endpoint) : Type 0 where
  pub vectors : length e.vectors ≡ 16
  pub within : IsInItsLimits e.spec

-- the keys are those of the endpoints, which are whole, apart and in order
pub record AreKept (endpoints : List Endpoint) (kept : List Key) : Type 0 where
  pub keys : kept ≡ map key_of endpoints
  pub sound : All IsWholeEndpoint endpoints
  pub apart : AllPairs AreEndpointsApart (map (λ (e : Endpoint). e.spec) endpoints)
  pub order : AllPairs IsBefore (map (λ (e : Endpoint). e.spec) endpoints)
