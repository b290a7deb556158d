-- What an access reaches, and what a read and a write there mean.
use Rattle.std.specs.Prelude.{◌≡◌, ◌≤◌, ℕ, zero, suc, ◌+◌, ◌-◌, ◌%◌, ◌^◌, Bool, true, false, ◌&&◌, nat_le, if◌then◌else◌, List, [], ◌∷◌, map, find, Option, Some, None, option_map, option_and_then}
use Rattle.std.specs.Option.{option_map_or}
use Rattle.jh_num.specs.declared.address.TheConstants.{ADDRESS_END}
use Rattle.jh_num.specs.declared.rights.Rights.{Rights}
use Rattle.jh_num.specs.Memory.{spelled}
use Rattle.jh_cellcfg.specs.declared.region.Region.{Region}
use Rattle.jh_cellcfg.specs.Regions.{has_flags, has_address, is_page_mapped, is_comm, place_in, byte_in}
use Rattle.jh_vpci.specs.Words.{read_of as space_read}
use Rattle.jh_ivshmem.specs.declared.endpoint.Endpoint.{Endpoint}
use Rattle.jh_ivshmem.specs.declared.spec.EndpointWord.{EndpointWord}
use Rattle.jh_ivshmem.specs.Registers.{register_of}
use Rattle.jh_ivshmem.specs.Links.{endpoint_at, endpoint_word_written}
use Rattle.jh_history.specs.declared.place.Place.{Place}
use Rattle.jh_history.specs.declared.place.Place.TheVariants.{Physical, Page}
use Rattle.jh_history.specs.declared.access.Access.{Access}
use Rattle.jh_history.specs.declared.access.Access.TheVariants.{Read, Write, Fetch}
use Rattle.jh_history.specs.declared.access.Reach.{Reach}
use Rattle.jh_history.specs.declared.access.Reach.TheVariants.{Memory, Subpage, Config, Window, Nothing}
use Rattle.jh_history.specs.Devices.{Devices, InConfig, InWindow, function_at}
use Rattle.jh_history.specs.Places.{places_in_row, written}

-- the flag of the right that the access needs
abbrev pub right_of : Access → ℕ
right_of Read = 0x1
right_of Write = 0x2
right_of Fetch = 0x4

-- the rights have the one that the access needs
abbrev pub has_right : Access → Rights → Bool
has_right Read rights = rights.read
has_right Write rights = rights.write
has_right Fetch rights = rights.execute

-- the region is page-mapped and gives the address with the right: memory is what such regions give. Subpage
-- regions, the ECAM window and the windows of devices answer accesses by cases of their own, behind memory
abbrev pub gives : Access → ℕ → Region → Bool
gives access at region = has_address region at && is_page_mapped region && has_flags (right_of access) region

-- the place that the region of the cell gives its address: a byte of the cell's communication page, or
-- one of physical memory
abbrev pub place_in_cell : ℕ → Region → ℕ → Place
place_in_cell id region at = if is_comm region then Page id (byte_in region at) else Physical (place_in region at)

-- the region that gives the address with the right: the first that does
abbrev pub region_of : List Region → Access → ℕ → Option Region
region_of regions access at = find (gives access at) regions

-- the place that the regions of the cell give the address, with the right
unfoldable pub place_of : ℕ → List Region → Access → ℕ → Option Place
place_of id regions access at = option_map (λ (r : Region). place_in_cell id r at) (region_of regions access at)

-- the places of so many addresses from `at` on, where each has one
abbrev pub places_from : (ℕ → Option Place) → ℕ → ℕ → Option (List Place)
places_from place at zero = Some []
places_from place at (suc count) = option_and_then (λ (p : Place). option_map (λ (ps : List Place). p ∷ ps) (places_from place (at + 1) count)) (place at)

-- what is reached: memory at those places, or nothing where there are none
abbrev pub memory_or_nothing : Option (List Place) → Reach
memory_or_nothing (Some places) = Memory places
memory_or_nothing None = Nothing

-- what an access of so many bytes reaches of memory, where addresses have these places: memory where each
-- byte has one, and nothing where one lacks it or the access ends past the addresses
unfoldable pub reach_by : (ℕ → Option Place) → ℕ → ℕ → Reach
reach_by place at width = if nat_le (at + width) ADDRESS_END then memory_or_nothing (places_from place at width) else Nothing

-- what an access reaches: memory where it reaches some, and else what answers it behind memory
abbrev pub or_behind : Reach → Reach → Reach
or_behind (Memory places) behind = Memory places
or_behind (Subpage places) behind = Subpage places
or_behind (Config bytes) behind = Config bytes
or_behind (Window register) behind = Window register
or_behind Nothing behind = behind

-- the number that an access reads of memory, where it reaches some
abbrev pub memory_read : (Place → ℕ) → Reach → Option ℕ
memory_read byte (Memory places) = Some (spelled (map byte places))
memory_read byte _ = None

-- no address from the end of addresses on has a place
abbrev pub EndsWithAddresses : (ℕ → Option Place) → Type 0
EndsWithAddresses place = (at : ℕ) → ADDRESS_END ≤ at → place at ≡ None

-- the byte that an access of one byte reads of memory, where the address has a place
abbrev pub byte_read : (Place → ℕ) → (ℕ → Option Place) → ℕ → Option ℕ
byte_read byte place at = memory_read byte (reach_by place at 1)

-- what the cell reads of configuration space: of a function that is present its bytes, of an absent one all ones
abbrev pub config_value : Devices → InConfig → ℕ
config_value devices bytes =
    option_map_or (λ (e : Endpoint). space_read e.space (bytes.at % 4096) bytes.width) (function_at devices bytes.at) (256 ^ bytes.width - 1)

-- what the cell reads of a register of its device
abbrev pub register_value : Devices → InWindow → ℕ
register_value devices register =
    option_map_or (λ (e : Endpoint). register_of e register.bar register.at) (endpoint_at devices.cell register.device devices.endpoints) 0

-- the number that an access of a cell with these devices reads where it reaches, from these bytes of memory
abbrev pub read_of : (Place → ℕ) → Devices → Reach → Option ℕ
read_of byte devices (Memory places) = Some (spelled (map byte places))
read_of byte devices (Subpage places) = Some (spelled (map byte places))
read_of byte devices (Config bytes) = Some (config_value devices bytes)
read_of byte devices (Window register) = Some (register_value devices register)
read_of byte devices Nothing = None

-- the access reaches something
abbrev pub is_reached : Reach → Bool
is_reached (Memory places) = true
is_reached (Subpage places) = true
is_reached (Config bytes) = true
is_reached (Window register) = true
is_reached Nothing = false

-- the bytes, with a word of a state table written
abbrev pub with_endpoint_word : EndpointWord → (Place → ℕ) → Place → ℕ
with_endpoint_word word byte = written byte (places_in_row (Physical word.place) 4) word.value

-- the bytes, with a word of a state table written where there is one to write
abbrev pub with_endpoint_word_if : Option EndpointWord → (Place → ℕ) → Place → ℕ
with_endpoint_word_if None byte = byte
with_endpoint_word_if (Some word) byte = with_endpoint_word word byte

-- the word of the state table that a write of the value to the register writes: its endpoint's, where the state register
-- gets another value
abbrev pub endpoint_word_put : Devices → InWindow → ℕ → Option EndpointWord
endpoint_word_put devices register value =
    option_and_then (λ (e : Endpoint). endpoint_word_written e register.bar register.at (value % 2 ^ 32)) (endpoint_at devices.cell register.device devices.endpoints)

-- the word of a state table that a write of the value writes where it reaches: at most one, by a register
abbrev pub endpoint_word_of_reach : Devices → Reach → ℕ → Option EndpointWord
endpoint_word_of_reach devices (Window register) value = endpoint_word_put devices register value
endpoint_word_of_reach devices _ value = None

-- the bytes after a cell with these devices writes the value where it reaches: a write in configuration space changes
-- none, and one of a register at most a word of a state table
abbrev pub write_of : (Place → ℕ) → Devices → Reach → ℕ → Place → ℕ
write_of byte devices (Memory places) value = written byte places value
write_of byte devices (Subpage places) value = written byte places value
write_of byte devices (Config bytes) value = byte
write_of byte devices (Window register) value = with_endpoint_word_if (endpoint_word_put devices register value) byte
write_of byte devices Nothing value = byte
