-- Bytes in a row, the places whose pages can come to be held, and places of communication pages.
use Rattle.std.specs.Prelude.{◌≡◌, ◌≢◌, ℕ, ◌<◌, false, List, map, filter, not, ◌==◌, All}
use Rattle.std.specs.List.{range_with_len}
use Rattle.jh_num.specs.declared.address.TheConstants.{ADDRESS_END}
use Rattle.jh_ivshmem.specs.declared.spec.EndpointSpec.{EndpointSpec}
use Rattle.jh_ivshmem.specs.declared.spec.EndpointWord.{EndpointWord}
use Rattle.jh_ivshmem.specs.Specs.{endpoint_word_of}
use Rattle.jh_history.specs.declared.comm.PageChange.{PageChange}
use Rattle.jh_history.specs.declared.comm.PageChange.TheVariants.{Fresh}
use Rattle.jh_history.specs.declared.place.Place.{Place}
use Rattle.jh_history.specs.declared.place.Place.TheVariants.{Physical, Page}
use Rattle.jh_history.specs.Places.{places_in_row}
use Rattle.jh_edit.specs.declared.stage.Stage2.{Stage2}
use Rattle.jh_board.specs.Seats.{IsSeated}
use Rattle.jh_frames.specs.Memory.{is_own}

-- the bytes from the offset on, so many of them
abbrev pub bytes_from : (ℕ → ℕ) → ℕ → ℕ → List ℕ
bytes_from byte offset count = map byte (range_with_len offset count)

-- the place is below the end of physical memory and beside the hypervisor's, or in the communication page of a cell
abbrev pub MayHold : Stage2 → Place → Type 0
MayHold stage (Physical address) = (address < ADDRESS_END) × (is_own stage.frames.own address ≡ false)
MayHold stage (Page cell offset) = IsSeated stage cell × (offset < 4096)

-- the pages of the word of a state table may be held
abbrev pub MayHoldEndpointWord : Stage2 → EndpointWord → Type 0
MayHoldEndpointWord stage word = All (MayHold stage) (places_in_row (Physical word.place) 4)

-- the pages of the endpoint's word of its state table may be held
abbrev pub MayHoldWordOf : Stage2 → EndpointSpec → Type 0
MayHoldWordOf stage spec = MayHoldEndpointWord stage (endpoint_word_of spec 0)

-- the place isn't one of the communication page of the cell with the id
abbrev pub IsOtherPlace : ℕ → Place → Type 0
IsOtherPlace id (Physical address) = Unit {0}
IsOtherPlace id (Page cell offset) = cell ≢ id

-- the change makes a page fresh
abbrev pub IsFresh : PageChange → Type 0
IsFresh (Fresh state console window) = Unit {0}
IsFresh change = ⊥

-- these ids without that one
abbrev pub ids_but : ℕ → List ℕ → List ℕ
ids_but id ids = filter (λ (other : ℕ). not (other == id)) ids
