-- Which devices are in a pair.
use Rattle.std.proofs.Common.{◌≡◌, ℕ, ◌<◌, true, false, Option, Some, None, length, slice_get, refl}
use Rattle.std.proofs.lemmas.Bool.{false≢true}
use Rattle.std.proofs.lemmas.Option.{slice_get_within}
use Rattle.std.specs.Option.{option_map_or}
use Rattle.jh_cellcfg.specs.declared.config.CellConfig.{CellConfig}
use Rattle.jh_cellcfg.specs.declared.config.PciDevice.{PciDevice}
use Rattle.jh_talk.specs.Private.Others.{is_other, talks_as, IsNotPaired}

-- ---- a device of the cell

other_there : (bdf number : ℕ) (o : Option PciDevice) → option_map_or (talks_as bdf number) o false ≡ true → (device : PciDevice) × (o ≡ Some device) × (talks_as bdf number device ≡ true)
other_there bdf number None e = absurd (false≢true e)
other_there bdf number (Some device) e = (device, refl, e)

pub other_within : (cell : CellConfig) (bdf number : ℕ) → is_other cell bdf number ≡ true → number < length cell.pci_devices
other_within cell bdf number e =
    let w = other_there bdf number (slice_get cell.pci_devices number) e in
    slice_get_within cell.pci_devices number w.0 w.1

-- ---- the first of root's

-- none of root's devices with a lower number is in a pair
abbrev pub NonePairedBelow : CellConfig → CellConfig → ℕ → Type 0
NonePairedBelow root cell end = (n : ℕ) → n < end → IsNotPaired root cell n
