-- How the least place is found.
use Rattle.std.specs.Prelude.{◌≡◌, ◌≤◌, ◌<◌, ◌%◌, ℕ, Bool, true, ◌&&◌, not, nat_le, if◌then◌else◌, Option, Some, None}
use Rattle.std.specs.List.{list_any}
use Rattle.jh_num.specs.declared.address.TheConstants.{PAGE_SIZE}
use Rattle.jh_cellcfg.specs.declared.region.Region.{Region}
use Rattle.jh_cellcfg.specs.declared.config.CellConfig.{CellConfig}
use Rattle.jh_cellcfg.specs.declared.config.PciDevice.{PciDevice}
use Rattle.jh_cellcfg.specs.Regions.{is_page_mapped}
use Rattle.jh_check.specs.Devices.{is_shmem, is_section}
use Rattle.jh_check.specs.Laws.{EachItem, EachTwoItems, MeetAtPlaceOnlyIf}
use Rattle.jh_talk.specs.Places.{may_hold, IsPlace}

-- of the cell's regions that have a size, those that are page-mapped begin at a page, and no two have a place together
pub record IsSoundMap (config : CellConfig) : Type 0 where
  pub aligned : EachItem config (λ r x. 0 < x.size → is_page_mapped x ≡ true → x.phys_start % PAGE_SIZE ≡ 0)
  pub single : EachTwoItems config config (λ r s x y. 0 < x.size → 0 < y.size → MeetAtPlaceOnlyIf x y (r ≡ s))

-- the region of that number is a section of the device, if it is an ivshmem device
abbrev pub is_section_of : ℕ → PciDevice → Bool
is_section_of number device = is_shmem device && is_section device number

-- the region of that number is a section of one of the cell's ivshmem devices
abbrev pub has_section : CellConfig → ℕ → Bool
has_section config number = list_any (is_section_of number) config.pci_devices

-- so many bytes may be put where the region of that number begins
abbrev pub is_room : CellConfig → ℕ → ℕ → Region → Bool
is_room root count number region = may_hold region && (nat_le count region.size && not (has_section root number))

-- the lesser of a place and another, if there is one
abbrev pub lesser : Option ℕ → ℕ → Option ℕ
lesser None place = Some place
lesser (Some best) place = Some (if nat_le best place then best else place)

-- the best place so far is at most each that lies in a region of a lower number
abbrev pub IsBest : CellConfig → ℕ → ℕ → Option ℕ → Type 0
IsBest root count end None = (place : ℕ) → (is : IsPlace root count place) → is.number < end → ⊥
IsBest root count end (Some best) = (place : ℕ) → (is : IsPlace root count place) → is.number < end → best ≤ place
