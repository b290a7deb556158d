-- What a system and cells without findings keep apart, over single addresses and places.
use Rattle.std.specs.Prelude.{◌≡◌, ℕ, ◌<◌, true, false, List, ◌∷◌, Some, slice_get}
use Rattle.jh_cellcfg.specs.declared.region.Region.{Region}
use Rattle.jh_cellcfg.specs.declared.config.CellConfig.{CellConfig}
use Rattle.jh_cellcfg.specs.declared.config.SystemConfig.{SystemConfig}
use Rattle.jh_cellcfg.specs.Regions.{has_address, has_place, is_comm, is_unshared}
use Rattle.jh_check.specs.Devices.{are_same_section}

-- the cell has that number; root has 0
abbrev pub IsNumbered : SystemConfig → List CellConfig → ℕ → CellConfig → Type 0
IsNumbered system cells a cell = slice_get (system.root ∷ cells) a ≡ Some cell

-- the region has that number in its cell
abbrev pub IsItem : CellConfig → ℕ → Region → Type 0
IsItem cell r region = slice_get cell.memory_regions r ≡ Some region

-- P holds of each cell, root too
abbrev pub EachCell : SystemConfig → List CellConfig → (CellConfig → Type 0) → Type 0
EachCell system cells P = (a : ℕ) (cell : CellConfig) → IsNumbered system cells a cell → P cell

-- P holds of each two cells of such numbers
abbrev pub EachTwoCells : SystemConfig → List CellConfig → (ℕ → ℕ → Type 0) → (CellConfig → CellConfig → Type 0) → Type 0
EachTwoCells system cells Numbers P =
    (a b : ℕ) (one other : CellConfig) → Numbers a b → IsNumbered system cells a one → IsNumbered system cells b other → P one other

-- P holds of each cell besides root
abbrev pub EachOtherCell : SystemConfig → List CellConfig → (CellConfig → Type 0) → Type 0
EachOtherCell system cells P = (a : ℕ) (cell : CellConfig) → 0 < a → IsNumbered system cells a cell → P cell

-- P holds of each two cells besides root
abbrev pub EachTwoOthers : SystemConfig → List CellConfig → (CellConfig → CellConfig → Type 0) → Type 0
EachTwoOthers system cells P =
    (a b : ℕ) (one other : CellConfig) → 0 < a → a < b → IsNumbered system cells a one → IsNumbered system cells b other → P one other

-- P holds of each region of the cell and its number
abbrev pub EachItem : CellConfig → (ℕ → Region → Type 0) → Type 0
EachItem cell P = (r : ℕ) (x : Region) → IsItem cell r x → P r x

-- P holds of each region of the one cell with each of the other, and of their numbers
abbrev pub EachTwoItems : CellConfig → CellConfig → (ℕ → ℕ → Region → Region → Type 0) → Type 0
EachTwoItems one other P = (r s : ℕ) (x y : Region) → IsItem one r x → IsItem other s y → P r s x y

-- the regions have an address together only where P holds
abbrev pub MeetAtAddressOnlyIf : Region → Region → Type 0 → Type 0
MeetAtAddressOnlyIf x y P = (at : ℕ) → has_address x at ≡ true → has_address y at ≡ true → P

-- the regions have a place together only where P holds
abbrev pub MeetAtPlaceOnlyIf : Region → Region → Type 0 → Type 0
MeetAtPlaceOnlyIf x y P = (place : ℕ) → has_place x place ≡ true → has_place y place ≡ true → P

-- no place is one of both regions
abbrev pub SharesNoPlace : Region → Region → Type 0
SharesNoPlace x y = MeetAtPlaceOnlyIf x y ⊥

-- at most one region of a cell gives an address
abbrev pub AddressesAreSingle : SystemConfig → List CellConfig → Type 0
AddressesAreSingle system cells =
    EachCell system cells (λ cell. EachTwoItems cell cell (λ r s x y. MeetAtAddressOnlyIf x y (r ≡ s)))

-- no region of any cell, root too, has a place of the hypervisor's memory
abbrev pub HypervisorIsAlone : SystemConfig → List CellConfig → Type 0
HypervisorIsAlone system cells =
    EachCell system cells (λ cell. EachItem cell (λ r x. is_comm x ≡ false → SharesNoPlace x system.platform.hypervisor_memory))

-- no place is held unshared by two cells besides root, but in the sections at the same offset of two linked devices:
-- that memory is theirs together
abbrev pub CellsAreApart : SystemConfig → List CellConfig → Type 0
CellsAreApart system cells =
    EachTwoOthers system cells (λ one other. EachTwoItems one other (λ r s x y.
    is_unshared x ≡ true → is_unshared y ≡ true → MeetAtPlaceOnlyIf x y (are_same_section one r other s ≡ true)))
