-- The first fault of bytes that are no configuration. It reads the header's numbers where they stand.
use Rattle.std.specs.Prelude.{◌≡◌, ℕ, ◌+◌, ◌-◌, Bool, not, ◌==◌, nat_lt, nat_eq, if◌then◌else◌, List, [], ◌∷◌, length, take, drop, slice_range, codes, Option, Some, None, Result, Ok, Err, IfOk}
use Rattle.std.specs.List.{starts_with}
use Rattle.std.specs.Int.{w16, w32, from_le_bytes}
use Rattle.jh_cellcfg.specs.declared.config.CellConfig.{CellConfig}
use Rattle.jh_cellcfg.specs.declared.fault.ConfigFault.{ConfigFault}
use Rattle.jh_cellcfg.specs.declared.fault.ConfigFault.TheVariants.{Short, Signature, Revision, Name, Count, Trailing, NoMemory}
use Rattle.jh_cellcfg.specs.declared.fault.Part.{Part}
use Rattle.jh_cellcfg.specs.declared.fault.Part.TheVariants.{CpuSet, MemoryRegions, CacheRegions, Irqchips, PioRegions, PciDevices, PciCaps, StreamIds, Total}
use Rattle.jh_cellcfg.specs.declared.header.Counts.{Counts}
use Rattle.jh_cellcfg.specs.Limits.{is_name, parts_size, whole_size}

-- the fault that a call answered, if it answered one
abbrev pub fault_of : {X : Type 0} → Result X ConfigFault → Option ConfigFault
fault_of (Ok x) = None
fault_of (Err fault) = Some fault

-- the fault that a call answered, if it answered one other than want of memory
abbrev pub refusal : {X : Type 0} → Result X ConfigFault → Option ConfigFault
refusal (Ok x) = None
refusal (Err NoMemory) = None
refusal (Err fault) = Some fault

-- the fault, where the test holds, and else none
abbrev pub fault_if : Bool → ConfigFault → Option ConfigFault
fault_if test fault = if test then Some fault else None

-- the first fault of several
abbrev pub first_of : List (Option ConfigFault) → Option ConfigFault
first_of [] = None
first_of (None ∷ rest) = first_of rest
first_of (Some fault ∷ rest) = Some fault

-- the fault of the part's count, where it is above the most that the part may have
abbrev pub over : Part → ℕ → ℕ → Option ConfigFault
over part most found = fault_if (nat_lt most found) (Count part found)

-- the fault of the first count that isn't within its limits
unfoldable pub count_fault : Counts → Option ConfigFault
count_fault n = first_of (
    fault_if (n.cpu_set == 0) (Count CpuSet 0)
    ∷ over CpuSet 64 n.cpu_set
    ∷ over MemoryRegions 1024 n.memory_regions
    ∷ over CacheRegions 1024 n.cache_regions
    ∷ over Irqchips 64 n.irqchips
    ∷ over PioRegions 1024 n.pio_regions
    ∷ over PciDevices 256 n.pci_devices
    ∷ over PciCaps 1024 n.pci_caps
    ∷ over StreamIds 1024 n.stream_ids
    ∷ over Total 65536 (whole_size n)
    ∷ [])

-- the number of the two bytes at the offset, the lowest first
abbrev pub u16_at : List ℕ → ℕ → ℕ
u16_at bytes offset = from_le_bytes w16 (slice_range bytes offset (offset + 2))

-- the number of the four bytes at the offset, the lowest first
abbrev pub u32_at : List ℕ → ℕ → ℕ
u32_at bytes offset = from_le_bytes w32 (slice_range bytes offset (offset + 4))

-- the counts of a header; the offsets count from its name
unfoldable pub counts_at : List ℕ → Counts
counts_at body = record {
  cpu_set = u32_at body 40;
  memory_regions = u32_at body 44;
  cache_regions = u32_at body 48;
  irqchips = u32_at body 52;
  pio_regions = u32_at body 56;
  pci_devices = u32_at body 60;
  pci_caps = u32_at body 64;
  stream_ids = u32_at body 68;
}

-- the first fault of a header's name and counts
unfoldable pub limits_fault : List ℕ → Counts → Option ConfigFault
limits_fault name counts = first_of (fault_if (not (is_name name)) Name ∷ count_fault counts ∷ [])

-- the fault of bytes that are fewer than needed, or more
unfoldable pub length_fault : ℕ → ℕ → Option ConfigFault
length_fault need len = first_of (
    fault_if (nat_lt len need) (Short need)
    ∷ fault_if (nat_lt need len) (Trailing (len - need))
    ∷ [])

-- the first fault of the bytes from a header's name on, which stand behind `front` others
abbrev pub body_fault : ℕ → List ℕ → Option ConfigFault
body_fault front body = first_of (
    limits_fault (take 32 body) (counts_at body)
    ∷ length_fault (front + 124 + parts_size (counts_at body)) (front + length body)
    ∷ [])

-- the first fault of what stands before all that is configured: of the signature of six bytes and the revision
unfoldable pub start_fault : List ℕ → List ℕ → Option ConfigFault
start_fault signature bytes = first_of (
    fault_if (not (starts_with nat_eq bytes signature)) Signature
    ∷ fault_if (not (u16_at bytes 6 == 13)) (Revision (u16_at bytes 6))
    ∷ [])

-- the first fault of a whole header, from its signature to the total of its counts
abbrev pub header_fault : List ℕ → Option ConfigFault
header_fault header = first_of (start_fault (codes "JHCELL") header ∷ limits_fault (slice_range header 8 40) (counts_at (drop 8 header)) ∷ [])

-- how many bytes the whole configuration has, by the counts of its header
abbrev pub size_by_header : List ℕ → ℕ
size_by_header header = whole_size (counts_at (drop 8 header))

-- the first fault of all the bytes, if they have one
abbrev pub first_fault : List ℕ → Option ConfigFault
first_fault bytes = first_of (
    fault_if (nat_lt (length bytes) 132) (Short 132)
    ∷ start_fault (codes "JHCELL") bytes
    ∷ body_fault 8 (drop 8 bytes)
    ∷ [])

-- the call answered this configuration, but for want of memory
pub record Gives (answer : Result CellConfig ConfigFault) (config : CellConfig) : Type 0 where
  pub unrefused : refusal answer ≡ None
  pub found : IfOk answer (λ other. other ≡ config)
