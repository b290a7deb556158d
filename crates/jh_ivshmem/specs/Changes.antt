-- One change of each endpoint that passes a test.
use Rattle.std.specs.Prelude.{Bool, List, map, if◌then◌else◌}
use Rattle.jh_ivshmem.specs.declared.endpoint.Endpoint.{Endpoint}
use Rattle.jh_ivshmem.specs.declared.spec.EndpointSpec.{EndpointSpec}

-- the endpoints that pass the test change, all others stay
unfoldable pub changed : (EndpointSpec → Bool) → (Endpoint → Endpoint) → List Endpoint → List Endpoint
changed test f list = map (λ (e : Endpoint). if test e.spec then f e else e) list
