-- What a cell is granted, byte by byte, and what a descriptor tells of it.
use Rattle.std.specs.Prelude.{◌≡◌, ℕ, ◌+◌, ◌<◌, Bool, true, false, Contains, if◌then◌else◌}
use Rattle.jh_num.specs.declared.rights.Rights.{Rights}
use Rattle.jh_cellcfg.specs.declared.region.Region.{Region}
use Rattle.jh_cellcfg.specs.Regions.{has_address, byte_in, place_in, is_comm, is_device, rights_of}
use Rattle.jh_num.specs.declared.level.TheConstants.{LAST_LEVEL}
use Rattle.jh_shape.specs.declared.want.Want.{Want}
use Rattle.jh_shape.specs.declared.want.Want.TheVariants.{Nothing, Table, Leaf}
use Rattle.jh_shape.specs.Claims.{Claims}
use Rattle.jh_shape.specs.Shapes.{is_mapped, is_kept_from}
use Rattle.jh_num.specs.Levels.{slot_size}

-- where the region leads its address: to a place, or into the cell's communication page
abbrev pub place_at : Claims → Region → ℕ → ℕ
place_at claims region at = if is_comm region then claims.comm + byte_in region at else place_in region at

-- a region that tables map gives the cell the address, and the place isn't closed to it
pub record IsGrantedBy (claims : Claims) (region : Region) (at place : ℕ) (rights : Rights) (device : Bool) : Type 0 where
  pub listed : Contains claims.regions region
  pub mapped : is_mapped region ≡ true
  pub has : has_address region at ≡ true
  pub leads : place ≡ place_at claims region at
  pub allows : rights ≡ rights_of region
  pub kind : device ≡ is_device region
  pub open_to : is_kept_from claims region at ≡ false

-- one of the regions that tables map gives the cell the address, and the place isn't closed to it
abbrev pub IsGranted : Claims → ℕ → ℕ → Rights → Bool → Type 0
IsGranted claims at place rights device = (region : Region) × IsGrantedBy claims region at place rights device

-- a leaf grants each byte of its slot, an invalid descriptor none, and a table stands above the last level
abbrev pub DescribesGrants : Claims → ℕ → ℕ → Want → Type 0
DescribesGrants claims level start Nothing =
    (k : ℕ) → k < slot_size level → (place : ℕ) (rights : Rights) (device : Bool) → IsGranted claims (start + k) place rights device → ⊥
DescribesGrants claims level start Table = level < LAST_LEVEL
DescribesGrants claims level start (Leaf out rights device) =
    (k : ℕ) → k < slot_size level → IsGranted claims (start + k) (out + k) rights device
