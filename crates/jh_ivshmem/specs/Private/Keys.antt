-- What a key tells of its endpoint, in the words for the endpoint's spec.
use Rattle.std.specs.Prelude.{ℕ, Bool, ◌&&◌, ◌||◌, ◌==◌, not, Option, is_some, List, AllPairs}
use Rattle.jh_ivshmem.specs.declared.spec.EndpointSpec.{EndpointSpec}
use Rattle.jh_ivshmem.specs.declared.key.Key.{Key}
use Rattle.jh_ivshmem.specs.declared.change.Whom.{Whom}
use Rattle.jh_ivshmem.specs.Specs.{is_device, is_before, is_peer, IsBefore}
use Rattle.jh_ivshmem.specs.Links.{vector_for}
use Rattle.jh_ivshmem.specs.Private.Changes.{is_meant}

-- a spec with the cell, the device, the bdf and the number that the key tells, and 0 in all else
abbrev pub spec_by : Key → EndpointSpec
spec_by key = record {
  cell = key.cell;
  device = key.device;
  bdf = key.bdf;
  peers = 0;
  id = key.id;
  table = 0;
  function = record { protocol = 0; vectors = 0; state_size = 0; rw_size = 0; out_size = 0; address = 0 };
}

-- the key's endpoint is of a lower cell, or of a lower device of this cell
abbrev pub is_key_before : ℕ → ℕ → Key → Bool
is_key_before cell device key = is_before cell device (spec_by key)

-- each key stands before those of higher cells, and in its cell of higher devices
abbrev pub AreInOrder : List Key → Type 0
AreInOrder keys = AllPairs (λ (one other : Key). IsBefore (spec_by one) (spec_by other)) keys

-- the endpoint with this key is meant
abbrev pub is_key_meant : Whom → Key → Bool
is_key_meant whom key = is_meant whom (spec_by key)

-- what the key tells of a pending vector of the cell
abbrev pub pending_by : ℕ → Key → Option (ℕ × ℕ)
pending_by cell key = vector_for cell (spec_by key) key.pending

-- the key is another cell's, or has a pending vector
abbrev pub is_search_end : ℕ → Key → Bool
is_search_end cell key = not (key.cell == cell) || is_some key.pending

-- the key's endpoint is neither the same device of the same cell nor the same number of one link
abbrev pub is_key_apart : EndpointSpec → Key → Bool
is_key_apart spec key = not (is_device spec.cell spec.device (spec_by key)) && not (is_peer spec.bdf spec.id (spec_by key))
