-- The rules about an ivshmem device, its links and its sections, and the rule about a cell's CPUs.
use Rattle.std.specs.Prelude.{ℕ, ◌+◌, ◌-◌, Bool, true, false, ◌&&◌, ◌||◌, not, ◌==◌, nat_lt, nat_le, nat_eq, List, [], ◌∷◌, length, take, drop, if◌then◌else◌}
use Rattle.std.specs.List.{list_any, list_all}
use Rattle.std.specs.Cmp.Lexicographic.{pointwise}
use Rattle.jh_cellcfg.specs.declared.region.Region.{Region}
use Rattle.jh_cellcfg.specs.declared.config.PciDevice.{PciDevice}
use Rattle.jh_cellcfg.specs.declared.config.CellConfig.{CellConfig}
use Rattle.jh_cellcfg.specs.Limits.{is_zero}
use Rattle.jh_cellcfg.specs.Regions.{has_flags, virt_end, is_page_mapped, is_comm, is_loadable}
pub use Rattle.jh_cellcfg.specs.Devices.{is_shmem}

-- the two devices are ivshmem devices with one `bdf`, and so are linked where they are of different cells
abbrev pub are_linked : PciDevice → PciDevice → Bool
are_linked one other = is_shmem one && (is_shmem other && (one.bdf == other.bdf))

-- how many sections a device has: the state table, the read/write section, and one for each peer's output
abbrev pub section_count : PciDevice → ℕ
section_count device = 2 + device.shmem_peers

-- the region of that number is one of the device's sections
abbrev pub is_section : PciDevice → ℕ → Bool
is_section device item =
    nat_le device.shmem_regions_start item && nat_lt (item - device.shmem_regions_start) (section_count device)

-- the regions are sections of the two linked devices, at the same offset
abbrev pub are_sections_of : ℕ → ℕ → PciDevice → PciDevice → Bool
are_sections_of item other_item one other =
    are_linked one other && (is_section one item && (is_section other other_item && ((item - one.shmem_regions_start) == (other_item - other.shmem_regions_start))))

-- the region of the one cell and that of the other are sections at the same offset of two linked devices
unfoldable pub are_same_section : CellConfig → ℕ → CellConfig → ℕ → Bool
are_same_section one item other other_item =
    list_any (λ (d : PciDevice). list_any (λ (e : PciDevice). are_sections_of item other_item d e) other.pci_devices) one.pci_devices

-- the regions of the cell that are sections of the device
abbrev pub sections_of : List Region → PciDevice → List Region
sections_of regions device = take (section_count device) (drop device.shmem_regions_start regions)

-- the device has 2 to 16 peers, and a number below them
abbrev pub has_good_peers : PciDevice → Bool
has_good_peers device =
    nat_le 2 device.shmem_peers && (nat_le device.shmem_peers 16 && nat_lt device.shmem_dev_id device.shmem_peers)

-- the BARs that an ivshmem device has: BAR 0 is a page, BAR 1 a table of vectors where there are some, and there is no
-- other
abbrev pub bars_of : PciDevice → List ℕ
bars_of device =
    0xfffff000 ∷ (if device.num_msix_vectors == 0 then 0 else 0xfffffe00) ∷ 0 ∷ 0 ∷ 0 ∷ 0 ∷ []

-- the device has at most 16 vectors, and the BARs that go with them
abbrev pub has_good_bars : PciDevice → Bool
has_good_bars device = nat_le device.num_msix_vectors 16 && pointwise nat_eq device.bar_mask (bars_of device)

-- all sections of the device are regions of the cell
abbrev pub has_all_sections : List Region → PciDevice → Bool
has_all_sections regions device = nat_le (device.shmem_regions_start + section_count device) (length regions)

-- the region may be a state table: it has 4,096 to 65,536 bytes, which may be read and not written
abbrev pub is_good_table : Region → Bool
is_good_table region =
    nat_le 4096 region.size && (nat_le region.size 65536 && (has_flags 0x1 region && not (has_flags 0x2 region)))

-- the first of the sections may be a state table
abbrev pub has_good_table : List Region → Bool
has_good_table [] = false
has_good_table (table ∷ others) = is_good_table table

-- the region may be a section: it is no communication region and not loadable, and it is page-mapped
abbrev pub is_section_region : Region → Bool
is_section_region region = not (is_comm region) && (not (is_loadable region) && is_page_mapped region)

-- of these outputs, the first of which is that of the peer `peer`, those of peers other than `own` can't be written
abbrev pub are_read_only : ℕ → ℕ → List Region → Bool
are_read_only own peer [] = true
are_read_only own peer (section ∷ sections) =
    ((peer == own) || not (has_flags 0x2 section)) && are_read_only own (peer + 1) sections

-- the sections are all of one size
abbrev pub are_alike : List Region → Bool
are_alike [] = true
are_alike (first ∷ others) = list_all (λ (other : Region). other.size == first.size) others

-- each section that has a size begins at the address where the one before it that has one ended, and the first at `end`
abbrev pub follows : ℕ → List Region → Bool
follows end [] = true
follows end (section ∷ sections) =
    if section.size == 0 then follows end sections else (section.virt_start == end) && follows (virt_end section) sections

-- each section that has a size begins at the address where the one before it that has one ended
abbrev pub are_in_a_row : List Region → Bool
are_in_a_row [] = true
are_in_a_row (section ∷ sections) =
    if section.size == 0 then are_in_a_row sections else follows (virt_end section) sections

-- an earlier ivshmem device of the cell has the device's `bdf`
abbrev pub is_twice : List PciDevice → PciDevice → Bool
is_twice earlier device = list_any (λ (other : PciDevice). is_shmem other && (other.bdf == device.bdf)) earlier

-- the two regions are of one size, and at the same place unless that size is 0
abbrev pub is_same_memory : Region → Region → Bool
is_same_memory one other = (one.size == other.size) && ((one.size == 0) || (one.phys_start == other.phys_start))

-- the two lists have as many regions, and each two at the same offset are the same memory
abbrev pub are_same_memory : List Region → List Region → Bool
are_same_memory ones others = pointwise is_same_memory ones others

-- the two devices, which are of different cells, fit each other: as many peers, different numbers, and the same memory
abbrev pub fits : List Region → PciDevice → List Region → PciDevice → Bool
fits regions device other_regions other =
    (device.shmem_peers == other.shmem_peers) && (not (device.shmem_dev_id == other.shmem_dev_id) && are_same_memory (sections_of regions device) (sections_of other_regions other))

-- the other device, if it is linked with the one, fits it
abbrev pub agrees_with : List Region → PciDevice → List Region → PciDevice → Bool
agrees_with regions device other_regions other = not (are_linked device other) || fits regions device other_regions other

-- each device of these cells, if it is linked with the one, fits it
abbrev pub agrees_with_all : List CellConfig → List Region → PciDevice → Bool
agrees_with_all lower regions device =
    list_all (λ (cell : CellConfig). list_all (λ (other : PciDevice). agrees_with regions device cell.memory_regions other) cell.pci_devices) lower

-- the device's sections are as is asked of them in its own cell
abbrev pub has_good_sections : PciDevice → List Region → Bool
has_good_sections device sections =
    has_good_table sections
    && (list_all is_section_region sections
    && (are_read_only device.shmem_dev_id 0 (drop 2 sections)
    && (are_alike (drop 2 sections) && are_in_a_row sections)))

-- the ten rules of an ivshmem device (ivshmem v2), by the cells with lower numbers, its cell, and the earlier
-- devices there
abbrev pub is_good_shmem : List CellConfig → CellConfig → List PciDevice → PciDevice → Bool
is_good_shmem lower cell earlier device =
    has_good_peers device
    && (has_good_bars device
    && (has_all_sections cell.memory_regions device
    && (has_good_sections device (sections_of cell.memory_regions device)
    && (not (is_twice earlier device) && agrees_with_all lower cell.memory_regions device))))

-- the device is an ivshmem device, and breaks one of its ten rules
unfoldable pub device_breaks : List CellConfig → CellConfig → List PciDevice → PciDevice → Bool
device_breaks lower cell earlier device = is_shmem device && not (is_good_shmem lower cell earlier device)

-- the CPU set names no CPU, or one above 15; CPU i is bit i mod 8 of byte i div 8
unfoldable pub cpus_break : List ℕ → Bool
cpus_break set = list_all is_zero set || not (list_all is_zero (drop 2 set))
