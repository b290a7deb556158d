-- The rules of the check about one region or two. Only regions of non-zero size count, and ends are sums
-- without overflow.
use Rattle.std.specs.Prelude.{ℕ, ◌*◌, ◌^◌, ◌%◌, Bool, false, ◌&&◌, ◌||◌, not, ◌==◌, nat_lt, List}
use Rattle.std.specs.List.{list_any}
use Rattle.jh_num.specs.declared.address.TheConstants.{ADDRESS_END, PAGE_SIZE}
use Rattle.jh_cellcfg.specs.declared.region.Region.{Region}
use Rattle.jh_cellcfg.specs.declared.config.CellConfig.{CellConfig}
use Rattle.jh_cellcfg.specs.Regions.{has_flags, virt_end, phys_end, is_page_mapped, is_comm, is_unshared}
pub use Rattle.jh_cellcfg.specs.Regions.{has_size, virt_meet, phys_meet}
use Rattle.jh_check.specs.declared.rule.Rule.{Rule}
use Rattle.jh_check.specs.declared.rule.Rule.TheVariants.{VirtOverlap, PhysOverlap, Hypervisor, OutOfRange, RootNotIdentity, CommInRoot, CommShape, ExecuteWithoutRead, SubpageTaken, CellsOverlap, PhysAlign}
use Rattle.jh_check.specs.Devices.{are_same_section}

-- a region of a cell: which cell that is, and the region's number there
pub record Spot : Type 0 where
  pub cell : ℕ
  pub config : CellConfig
  pub item : ℕ
  pub region : Region

-- both regions are shared with root
abbrev pub both_shared : Region → Region → Bool
both_shared one other = has_flags 0x80 one && has_flags 0x80 other

-- neither of the two regions is a communication region, and a place is in both
abbrev pub share_places : Region → Region → Bool
share_places one other = not (is_comm one) && (not (is_comm other) && phys_meet one other)

-- the one region is a subpage region that is held unshared, and the other a page-mapped region with one of its places
abbrev pub takes_pages : Region → Region → Bool
takes_pages one other = is_unshared one && (not (is_page_mapped one) && (is_page_mapped other && phys_meet one other))

-- The two regions break the rule, which is about two: an earlier and a later region of one cell have an address in
-- common; or a place, where neither is a communication region. A cell's subpage region that it holds unshared takes
-- places from a page-mapped region of root, so that root would lose whole pages. Two cells besides root have a place in
-- common that they don't both share with root, and that isn't at the same offset of two linked devices.
unfoldable pub pair_breaks : Rule → Spot → Spot → Bool
pair_breaks VirtOverlap one other = (one.cell == other.cell) && (nat_lt one.item other.item && virt_meet one.region other.region)
pair_breaks PhysOverlap one other = (one.cell == other.cell) && (nat_lt one.item other.item && share_places one.region other.region)
pair_breaks SubpageTaken one other = not (one.cell == 0) && ((other.cell == 0) && takes_pages one.region other.region)
pair_breaks CellsOverlap one other =
    nat_lt 0 one.cell
    && (nat_lt one.cell other.cell && (share_places one.region other.region && (not (both_shared one.region other.region) && not (are_same_section one.config one.item other.config other.item))))
pair_breaks _ one other = false

-- the region is a communication region that counts: it has a size
abbrev pub is_counted_comm : Region → Bool
is_counted_comm region = has_size region && is_comm region

-- the communication region isn't one whole page, or isn't the cell's first
abbrev pub is_misshapen : List Region → Region → Bool
is_misshapen earlier region =
    not (region.size == PAGE_SIZE) || (not (region.virt_start % PAGE_SIZE == 0) || list_any is_counted_comm earlier)

-- the region ends past the addresses, or its places do where it has any
abbrev pub is_out_of_range : Region → Bool
is_out_of_range region = nat_lt ADDRESS_END (virt_end region) || (not (is_comm region) && nat_lt ADDRESS_END (phys_end region))

-- The region breaks the rule, which is about one, by the hypervisor's memory, the cell's number and its earlier regions:
-- it has a place in the hypervisor's memory; it ends past the addresses, or its places do; root's isn't mapped to
-- itself; root has a communication region; another cell's isn't one page or isn't its first; one may execute what one
-- can't read; its places aren't aligned to pages where its addresses are.
abbrev pub breaks_alone : Rule → Region → ℕ → List Region → Region → Bool
breaks_alone Hypervisor memory cell earlier region = not (is_comm region) && phys_meet region memory
breaks_alone OutOfRange memory cell earlier region = is_out_of_range region
breaks_alone RootNotIdentity memory cell earlier region = (cell == 0) && not (region.phys_start == region.virt_start)
breaks_alone CommInRoot memory cell earlier region = (cell == 0) && is_comm region
breaks_alone CommShape memory cell earlier region = not (cell == 0) && (is_comm region && is_misshapen earlier region)
breaks_alone ExecuteWithoutRead memory cell earlier region = has_flags 0x4 region && not (has_flags 0x1 region)
breaks_alone PhysAlign memory cell earlier region = is_page_mapped region && (not (is_comm region) && not (region.phys_start % PAGE_SIZE == 0))
breaks_alone _ memory cell earlier region = false

-- the region has a size, and breaks the rule about one region
unfoldable pub region_breaks : Rule → Region → ℕ → List Region → Region → Bool
region_breaks rule memory cell earlier region = has_size region && breaks_alone rule memory cell earlier region

-- the most that the hypervisor's memory may have: 64 MiB
abbrev pub most_memory : ℕ
most_memory = 64 * 2 ^ 20

-- the hypervisor's memory breaks the rule: it is empty, above 64 MiB, or ends past the places; or it isn't whole pages
unfoldable pub hypervisor_breaks : Rule → Region → Bool
hypervisor_breaks OutOfRange memory = (memory.size == 0) || (nat_lt most_memory memory.size || nat_lt ADDRESS_END (phys_end memory))
hypervisor_breaks PhysAlign memory = has_size memory && (not (memory.phys_start % PAGE_SIZE == 0) || not (memory.size % PAGE_SIZE == 0))
hypervisor_breaks _ memory = false
