-- What must hold where a descriptor is asked for.
use Rattle.std.specs.Prelude.{◌≡◌, ℕ, ◌%◌, ◌<◌, ◌≤◌, true, false, IsTrue, All, AllPairs}
use Rattle.jh_num.specs.declared.address.TheConstants.{ADDRESS_END, PAGE_SIZE}
use Rattle.jh_cellcfg.specs.declared.region.Region.{Region}
use Rattle.jh_cellcfg.specs.Regions.{virt_end, phys_end, place_in, is_comm, has_address, SharesNoAddress}
use Rattle.jh_num.specs.declared.level.TheConstants.{FIRST_LEVEL, LAST_LEVEL}
use Rattle.jh_shape.specs.Claims.{Claims}
use Rattle.jh_shape.specs.Shapes.{is_mapped, are_cut}
use Rattle.jh_num.specs.Levels.{slot_size}

-- a region that isn't empty ends within the addresses, and, unless it is a communication region, its
-- places end there too; a communication region is one page, and the places of mapped memory are aligned
-- to pages
pub record IsFit (region : Region) : Type 0 where
  pub virt : 0 < region.size → virt_end region ≤ ADDRESS_END
  pub phys : 0 < region.size → is_comm region ≡ false → phys_end region ≤ ADDRESS_END
  pub comm_size : 0 < region.size → is_comm region ≡ true → region.size ≡ PAGE_SIZE
  pub aligned : is_mapped region ≡ true → is_comm region ≡ false → region.phys_start % PAGE_SIZE ≡ 0

-- no other cell's unshared region has some of the places of a page of the region and not all, where tables map the
-- region and it has places
abbrev pub IsUncut : Claims → Region → Type 0
IsUncut claims region =
    is_mapped region ≡ true → is_comm region ≡ false → (at : ℕ) → at % PAGE_SIZE ≡ 0 → IsTrue (has_address region at)
    → are_cut claims.holders (place_in region at) PAGE_SIZE ≡ false

-- the claims are sound: the communication page is aligned and begins below the end of addresses, no two regions have an
-- address in common, each is fit, and each of root's is uncut
pub record AreSoundClaims (claims : Claims) : Type 0 where
  pub comm_aligned : claims.comm % PAGE_SIZE ≡ 0
  pub comm_bound : claims.comm < ADDRESS_END
  pub disjoint : AllPairs SharesNoAddress claims.regions
  pub fit : All IsFit claims.regions
  pub whole : IsTrue claims.root → All (IsUncut claims) claims.regions

-- a slot of the level begins at the address: the level is one of the tables', and the address a multiple of the slot's
-- size below the end of addresses
pub record IsSlot (level start : ℕ) : Type 0 where
  pub first : FIRST_LEVEL ≤ level
  pub last : level ≤ LAST_LEVEL
  pub begins : start % slot_size level ≡ 0
  pub bound : start < ADDRESS_END
