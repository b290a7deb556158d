-- An endpoint: its vectors, and what raises them.
use Rattle.std.specs.Prelude.{ℕ, Bool, true, false, ◌&&◌, ◌||◌, not, nat_lt, Option, List, replicate, position, slice_index_or, slice_set, if◌then◌else◌}
use Rattle.jh_vpci.specs.Space.{has_vectors, is_open as is_function_open, fresh as fresh_space}
use Rattle.jh_ivshmem.specs.declared.spec.EndpointSpec.{EndpointSpec}
use Rattle.jh_ivshmem.specs.declared.vector.Vector.{Vector}
use Rattle.jh_ivshmem.specs.declared.endpoint.Endpoint.{Endpoint}
use Rattle.jh_ivshmem.specs.Specs.{vector_count}

-- a vector as after reset: masked, its words 0, not pending
abbrev pub fresh_vector : Vector
fresh_vector = record { address = 0; upper_address = 0; message = 0; masked = true; pending = false }

-- the vectors of an endpoint as after reset: 16 of them
abbrev pub fresh_vectors : List Vector
fresh_vectors = replicate 16 fresh_vector

-- the vector of that number of the endpoint, a fresh one past the last
abbrev pub vector_at : Endpoint → ℕ → Vector
vector_at e v = slice_index_or e.vectors v fresh_vector

-- the vector is open: interrupt control is on, the endpoint has it, and with MSI-X the function may send and it isn't
-- masked
abbrev pub is_open : Endpoint → ℕ → Bool
is_open e v =
    e.control && nat_lt v (vector_count e.spec) && is_function_open e.space
    && (not (has_vectors e.spec.function) || not (vector_at e v).masked)

-- the endpoint after a raise: an open vector becomes pending, and one-shot turns interrupt control off; any other raise
-- does nothing
unfoldable pub raised : ℕ → Endpoint → Endpoint
raised v e =
    if is_open e v then record e {
      control = not e.space.one_shot;
      vectors = slice_set e.vectors v (record (vector_at e v) { pending = true });
    }
    else e

-- the endpoint's lowest pending vector, if one is pending
abbrev pub pending_in : Endpoint → Option ℕ
pending_in e = position (λ (vector : Vector). vector.pending) e.vectors

-- the endpoint after the vector is taken: it is no longer pending
unfoldable pub taken : ℕ → Endpoint → Endpoint
taken v e = record e { vectors = slice_set e.vectors v (record (vector_at e v) { pending = false }) }

-- an endpoint as after joining or a reset
abbrev pub fresh : EndpointSpec → Endpoint
fresh spec = record {
  spec = spec;
  space = fresh_space spec.function;
  control = false;
  state = 0;
  vectors = fresh_vectors;
}

-- the endpoint after a reset: all that a guest can change is as at first
unfoldable pub cleared : Endpoint → Endpoint
cleared e = record e { space = fresh_space e.space.spec; control = false; state = 0; vectors = fresh_vectors }
