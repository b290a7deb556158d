-- The sections of a device, by their numbers among the regions of its cell.
use Rattle.std.proofs.Common.{◌≡◌, ℕ, ◌+◌, ◌-◌, true, nat_lt, nat_le, drop, Some, slice_get, sym, ap, ◌∙◌, arith}
use Rattle.std.proofs.lemmas.Bool.{and_parts, and_from, ltb-true, lt-ltb, leb-true, le-leb}
use Rattle.jh_cellcfg.specs.declared.region.Region.{Region}
use Rattle.jh_cellcfg.specs.declared.config.PciDevice.{PciDevice}
use Rattle.jh_cellcfg.specs.declared.config.CellConfig.{CellConfig}
use Rattle.jh_check.specs.Devices.{is_section, section_count, sections_of}
use Rattle.jh_check.specs.Laws.{IsItem}
use Rattle.jh_check.proofs.Public.{get_drop, get_take, take_get}

-- the section of the device at that index is the region of that number
pub record IsAt (config : CellConfig) (device : PciDevice) (x : Region) : Type 0 where
  pub number : ℕ
  pub item : IsItem config number x
  pub is : is_section device number ≡ true

pub section_at_number : (config : CellConfig) (device : PciDevice) (k : ℕ) (x : Region) → slice_get (sections_of config.memory_regions device) k ≡ Some x → IsAt config device x
section_at_number config device k x h =
    let regions = config.memory_regions in
    let start = device.shmem_regions_start in
    let g = get_take (section_count device) (drop start regions) k x h in
    let few = g.0 in
    let e : start + k - start ≡ k = omega arith in
    let below : nat_lt (start + k - start) (section_count device) ≡ true = ap (λ n. nat_lt n (section_count device)) e ∙ lt-ltb k (section_count device) few in
    record {
      number = start + k;
      item = sym (get_drop start regions k) ∙ g.1;
      is = and_from (nat_le start (start + k)) (nat_lt (start + k - start) (section_count device)) (le-leb start (start + k) (omega arith)) below;
    }

pub number_in_sections : (config : CellConfig) (device : PciDevice) (number : ℕ) (x : Region) → IsItem config number x → is_section device number ≡ true → slice_get (sections_of config.memory_regions device) (number - device.shmem_regions_start) ≡ Some x
number_in_sections config device number x item is =
    let regions = config.memory_regions in
    let start = device.shmem_regions_start in
    let parts = and_parts (nat_le start number) (nat_lt (number - start) (section_count device)) is in
    let begins = leb-true start number parts.0 in
    let few = ltb-true (number - start) (section_count device) parts.1 in
    let e : start + (number - start) ≡ number = omega arith in
    take_get (section_count device) (drop start regions) (number - start) x few
    (get_drop start regions (number - start) ∙ ap (slice_get regions) e ∙ item)
