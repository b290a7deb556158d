-- All endpoints: what each call leaves of them. A link is the endpoints with one bdf.
use Rattle.std.specs.Prelude.{ℕ, ◌≡◌, ◌≢◌, ◌<◌, length, slice_get, slice_index_or, ◌/◌, ◌%◌, ◌^◌, Bool, true, false, not, ◌&&◌, ◌==◌, nat_lt, Option, None, Some, List, [], ◌∷◌, fold, filter, find, option_map, if◌then◌else◌}
use Rattle.std.specs.Option.{option_map_or}
use Rattle.jh_vpci.specs.Space.{Space}
use Rattle.jh_ivshmem.specs.declared.endpoint.Endpoint.{Endpoint}
use Rattle.jh_ivshmem.specs.declared.spec.EndpointSpec.{EndpointSpec}
use Rattle.jh_ivshmem.specs.declared.spec.EndpointWord.{EndpointWord}
use Rattle.jh_ivshmem.specs.Specs.{is_device, is_before, is_peer, is_other, endpoint_word_of}
use Rattle.jh_ivshmem.specs.Endpoint.{raised, taken, cleared, fresh, pending_in, vector_at}
use Rattle.jh_ivshmem.specs.Registers.{register_written}
use Rattle.jh_ivshmem.specs.Changes.{changed}

-- the endpoint of this device of this cell
abbrev pub endpoint_at : ℕ → ℕ → List Endpoint → Option Endpoint
endpoint_at cell device list = find (λ (e : Endpoint). is_device cell device e.spec) list

-- P holds of the endpoint of this device of this cell, if there is one
abbrev pub ForEndpoint : ℕ → ℕ → List Endpoint → (Endpoint → Type 0) → Type 0
ForEndpoint cell device list P = (e : Endpoint) → endpoint_at cell device list ≡ Some e → P e

-- the endpoints that fail the test
abbrev pub besides : (EndpointSpec → Bool) → List Endpoint → List Endpoint
besides test list = filter (λ (e : Endpoint). not (test e.spec)) list

-- the endpoint of this device of this cell has the vector pending
abbrev pub is_pending : ℕ → ℕ → ℕ → List Endpoint → Bool
is_pending cell device v list = option_map_or (λ (e : Endpoint). (vector_at e v).pending) (endpoint_at cell device list) false

-- the endpoint at that index of the list has the vector pending
abbrev pub is_pending_at : ℕ → ℕ → List Endpoint → Bool
is_pending_at k v list = option_map_or (λ (e : Endpoint). (vector_at e v).pending) (slice_get list k) false

-- the endpoints after the configuration space of the endpoint of this device of this cell is another
abbrev pub configured : ℕ → ℕ → Space → List Endpoint → List Endpoint
configured cell device space list = changed (is_device cell device) (λ (e : Endpoint). record e { space = space }) list

-- the endpoints after one joins, as after a reset: it stands behind those of lower cells, and of lower devices of its
-- cell
abbrev pub joined : EndpointSpec → List Endpoint → List Endpoint
joined spec [] = fresh spec ∷ []
joined spec (e ∷ list) = if is_before spec.cell spec.device e.spec then e ∷ joined spec list else fresh spec ∷ e ∷ list

-- the endpoints after the doorbell of a link is rung: the vector of the endpoint with the target's number is raised
abbrev pub rung : ℕ → ℕ → ℕ → List Endpoint → List Endpoint
rung bdf target v list = changed (is_peer bdf target) (raised v) list

-- the endpoints after the others of the endpoint's link learn that its state is another: vector 0 of each is raised
abbrev pub others_raised : EndpointSpec → List Endpoint → List Endpoint
others_raised spec list = changed (is_other spec.bdf spec.id) (raised 0) list

-- the endpoints after the others of the endpoint's link are told that its state gets another value, where it does
abbrev pub told_of : Endpoint → ℕ → List Endpoint → List Endpoint
told_of e value list = if e.state == value then list else others_raised e.spec list

-- the endpoints after a write of the value to the endpoint's state register
abbrev pub state_written : Endpoint → ℕ → List Endpoint → List Endpoint
state_written e value list =
    changed (is_device e.spec.cell e.spec.device) (λ (o : Endpoint). record o { state = value }) (told_of e value list)

-- the endpoints after a write to a register of the endpoint: the doorbell has the vector in bits 0 to 15 and the target
-- in bits 16 to 31
unfoldable pub written : Endpoint → ℕ → ℕ → ℕ → List Endpoint → List Endpoint
written e bar at value list =
    if (bar == 0) && (at == 0x0c) then rung e.spec.bdf (value / 2 ^ 16) (value % 2 ^ 16) list
    else (if (bar == 0) && (at == 0x10) then state_written e value list
    else changed (is_device e.spec.cell e.spec.device) (register_written bar at value) list)

-- the endpoint's word that is written with a register, where the state gets another value
unfoldable pub endpoint_word_written : Endpoint → ℕ → ℕ → ℕ → Option EndpointWord
endpoint_word_written e bar at value =
    if ((bar == 0) && (at == 0x10)) && not (e.state == value) then Some (endpoint_word_of e.spec value) else None

-- the endpoints after a reset of the endpoint, which acts on the link as a state write of 0
abbrev pub reset_of : Endpoint → List Endpoint → List Endpoint
reset_of e list = changed (is_device e.spec.cell e.spec.device) cleared (told_of e 0 list)

-- the endpoints after the endpoint leaves: it acts on the link as a state write of 0, and then is gone
abbrev pub left_by : Endpoint → List Endpoint → List Endpoint
left_by e list = besides (is_device e.spec.cell e.spec.device) (told_of e 0 list)

-- the earlier of two pending vectors: the one of the lower device
abbrev pub earlier : Option (ℕ × ℕ) → Option (ℕ × ℕ) → Option (ℕ × ℕ)
earlier None other = other
earlier (Some one) None = Some one
earlier (Some one) (Some other) = if nat_lt other.0 one.0 then Some other else Some one

-- the endpoint's device with the vector, if there is one, where the endpoint is the cell's
abbrev pub vector_for : ℕ → EndpointSpec → Option ℕ → Option (ℕ × ℕ)
vector_for cell spec vector = if spec.cell == cell then option_map (λ v. (spec.device, v)) vector else None

-- the endpoint's device with its lowest pending vector, where it is the cell's
abbrev pub pending_for : ℕ → Endpoint → Option (ℕ × ℕ)
pending_for cell e = vector_for cell e.spec (pending_in e)

-- the cell's pending vector of the lowest device, then of the lowest number
abbrev pub pending_of : ℕ → List Endpoint → Option (ℕ × ℕ)
pending_of cell list = fold (λ best (e : Endpoint). earlier best (pending_for cell e)) None list

-- the endpoints after this pending vector of the cell, if there is one, is taken
abbrev pub taken_of : ℕ → Option (ℕ × ℕ) → List Endpoint → List Endpoint
taken_of cell None list = list
taken_of cell (Some next) list = changed (is_device cell next.0) (taken next.1) list

-- the endpoint of that number in the list is on another link than the other endpoint, and isn't that one
pub record IsOnAnotherLink (e : Endpoint) (list : List Endpoint) (k : ℕ) (d : Endpoint) : Type 0 where
  pub within : k < length list
  pub link : (slice_index_or list k d).spec.bdf ≢ e.spec.bdf
  pub device : is_device e.spec.cell e.spec.device (slice_index_or list k d).spec ≡ false

-- endpoints, a device of a cell that has one of them, and a vector that this one has pending
pub record PendingVector : Type 0 where
  pub list : List Endpoint
  pub cell : ℕ
  pub device : ℕ
  pub vector : ℕ
  pub pending : is_pending cell device vector list ≡ true

-- the vector is pending at the device's endpoint among these too
abbrev pub StaysPending : PendingVector → List Endpoint → Type 0
StaysPending p list = is_pending p.cell p.device p.vector list ≡ true

-- the endpoint is of another device than the one that has the vector pending
abbrev pub IsOfAnother : PendingVector → Endpoint → Type 0
IsOfAnother p e = is_device p.cell p.device e.spec ≡ false
