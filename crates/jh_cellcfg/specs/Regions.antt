-- What a memory region says of an address: whether it is one of the region's, what place it has, and
-- what may be done with it.
use Rattle.std.specs.Prelude.{◌≡◌, ℕ, ◌+◌, ◌-◌, ◌%◌, ◌<◌, ◌≤◌, Bool, false, ◌&&◌, not, ◌==◌, nat_lt, nat_le, bit_and, IsTrue, List, All, if◌then◌else◌}
use Rattle.jh_num.specs.declared.address.TheConstants.{ADDRESS_END, PAGE_SIZE}
use Rattle.jh_num.specs.declared.rights.Rights.{Rights}
use Rattle.jh_cellcfg.specs.declared.region.Region.{Region}

-- all bits of the mask are among the region's flags
abbrev pub has_flags : ℕ → Region → Bool
has_flags mask region = bit_and region.flags mask == mask

-- one past the region's last address
abbrev pub virt_end : Region → ℕ
virt_end region = region.virt_start + region.size

-- one past the region's last place
abbrev pub phys_end : Region → ℕ
phys_end region = region.phys_start + region.size

-- the address is one of the region's; a region of size 0 has none
abbrev pub has_address : Region → ℕ → Bool
has_address region at = nat_le region.virt_start at && nat_lt at (virt_end region)

-- no address is one of both regions
abbrev pub SharesNoAddress : Region → Region → Type 0
SharesNoAddress region other = (at : ℕ) → IsTrue (has_address region at) → IsTrue (has_address other at) → ⊥

-- the physical place is one of the region's
abbrev pub has_place : Region → ℕ → Bool
has_place region place = nat_le region.phys_start place && nat_lt place (phys_end region)

-- the place that the region gives its address
abbrev pub place_in : Region → ℕ → ℕ
place_in region at = region.phys_start + (at - region.virt_start)

-- the byte of the communication page that the region gives its address, by its offset
abbrev pub byte_in : Region → ℕ → ℕ
byte_in region at = at - region.virt_start

-- the region's addresses are whole pages
abbrev pub is_page_mapped : Region → Bool
is_page_mapped region = (region.virt_start % PAGE_SIZE == 0) && (region.size % PAGE_SIZE == 0)

-- the region is a communication region: its addresses lie in the cell's communication page
abbrev pub is_comm : Region → Bool
is_comm = has_flags 0x20

-- the region is unshared: it is neither a communication region nor shared with root
abbrev pub is_unshared : Region → Bool
is_unshared region = not (is_comm region) && not (has_flags 0x80 region)

-- the region is loadable: root keeps its places while the cell is loadable
abbrev pub is_loadable : Region → Bool
is_loadable = has_flags 0x40

-- the region is memory of a device
abbrev pub is_device : Region → Bool
is_device = has_flags 0x10

-- the region may be mapped by blocks larger than a page
abbrev pub may_have_blocks : Region → Bool
may_have_blocks region = not (has_flags 0x100 region)

-- the rights of the region: whether its bytes may be read, written and executed
abbrev pub rights_of : Region → Rights
rights_of region = record { read = has_flags 0x1 region; write = has_flags 0x2 region; execute = has_flags 0x4 region }

-- the region, where it is a subpage region, allows an access at an address that isn't a multiple of its width
abbrev pub allows_unaligned : Region → Bool
allows_unaligned = has_flags 0x8000

-- the region, where it is a subpage region, allows an access of so many bytes
abbrev pub allows_width : ℕ → Region → Bool
allows_width width region =
    if width == 1 then has_flags 0x10000 region
    else (if width == 2 then has_flags 0x20000 region
    else (if width == 4 then has_flags 0x40000 region
    else (if width == 8 then has_flags 0x80000 region else false)))

-- the region has a size
abbrev pub has_size : Region → Bool
has_size region = nat_lt 0 region.size

-- the two regions have an address in common: both have a size, and an address is in both
abbrev pub virt_meet : Region → Region → Bool
virt_meet one other =
    (has_size one && has_size other) && (nat_lt one.virt_start (virt_end other) && nat_lt other.virt_start (virt_end one))

-- the two regions have a place in common: both have a size, and a place is in both
abbrev pub phys_meet : Region → Region → Bool
phys_meet one other =
    (has_size one && has_size other) && (nat_lt one.phys_start (phys_end other) && nat_lt other.phys_start (phys_end one))

-- the region's addresses and its places end within those that there are
pub record IsWithin (region : Region) : Type 0 where
  pub virt : virt_end region ≤ ADDRESS_END
  pub phys : phys_end region ≤ ADDRESS_END

-- the region's addresses end within those that there are, and so do its places where it has any: a communication region
-- has none
pub record IsInRange (region : Region) : Type 0 where
  pub virt : virt_end region ≤ ADDRESS_END
  pub phys : is_comm region ≡ false → phys_end region ≤ ADDRESS_END

-- a region that has a size is in range
abbrev pub IsEmptyOrInRange : Region → Type 0
IsEmptyOrInRange region = 0 < region.size → IsInRange region

-- each region that has a size is in range
abbrev pub AreInRange : List Region → Type 0
AreInRange regions = All IsEmptyOrInRange regions
