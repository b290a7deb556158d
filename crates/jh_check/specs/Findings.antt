-- The findings of a system and its cells: by number, then cells, then regions. Root has the number 0, and the
-- others follow in order; the hypervisor's memory is told as cell 16, after all.
use Rattle.std.specs.Prelude.{ℕ, List, [], ◌∷◌, ◌++◌, take}
use Rattle.jh_num.specs.Numbers.{item_number}
use Rattle.jh_cellcfg.specs.declared.region.Region.{Region}
use Rattle.jh_cellcfg.specs.declared.config.PciDevice.{PciDevice}
use Rattle.jh_cellcfg.specs.declared.config.CellConfig.{CellConfig}
use Rattle.jh_cellcfg.specs.declared.config.SystemConfig.{SystemConfig}
use Rattle.jh_check.specs.declared.finding.Finding.{Finding}
use Rattle.jh_check.specs.declared.rule.Rule.{Rule}
use Rattle.jh_check.specs.declared.rule.Rule.TheVariants.{VirtOverlap, PhysOverlap, Hypervisor, OutOfRange, RootNotIdentity, CommInRoot, CommShape, ExecuteWithoutRead, SubpageTaken, CellsOverlap, Shmem, NoCpu, PhysAlign}
use Rattle.jh_check.specs.Regions.{Spot, pair_breaks, region_breaks, hypervisor_breaks}
use Rattle.jh_check.specs.Devices.{device_breaks, cpus_break}
use Rattle.jh_check.specs.Lists.{found_from, only_if}

-- the number of the rule
abbrev pub rule_number : Rule → ℕ
rule_number VirtOverlap = 1
rule_number PhysOverlap = 2
rule_number Hypervisor = 3
rule_number OutOfRange = 4
rule_number RootNotIdentity = 5
rule_number CommInRoot = 6
rule_number CommShape = 7
rule_number ExecuteWithoutRead = 8
rule_number SubpageTaken = 9
rule_number CellsOverlap = 10
rule_number Shmem = 11
rule_number NoCpu = 12
rule_number PhysAlign = 13

-- the finding that the rule is broken by these: an item of a cell, and another of the same cell or of another one; 0 for
-- what the rule doesn't speak of
unfoldable pub finding_of : Rule → ℕ → ℕ → ℕ → ℕ → Finding
finding_of rule cell item other_cell other_item =
    record { number = rule_number rule; cell = cell; item = item_number item; other_cell = other_cell; other_item = item_number other_item }

-- the region with its cell, and the numbers of both
abbrev pub spot : ℕ → CellConfig → ℕ → Region → Spot
spot cell config item region = record { cell = cell; config = config; item = item; region = region }

-- what a rule about two regions finds in a region of the one cell with a region of the other
abbrev pub beside_at : Rule → Spot → ℕ → CellConfig → ℕ → Region → List Finding
beside_at rule one b other s y = only_if (pair_breaks rule one (spot b other s y)) (finding_of rule one.cell one.item b s)

-- what a rule about two regions finds in a region of the one cell with each region of the other
unfoldable pub beside : Rule → Spot → ℕ → CellConfig → List Finding
beside rule one b other = found_from (beside_at rule one b other) 0 other.memory_regions

-- what a rule about two regions finds in a region of the one cell, by its number, with each region of the other
abbrev pub between_at : Rule → ℕ → CellConfig → ℕ → CellConfig → ℕ → Region → List Finding
between_at rule a one b other r x = beside rule (spot a one r x) b other

-- what a rule about two regions finds in each region of the one cell with each region of the other
unfoldable pub between : Rule → ℕ → CellConfig → ℕ → CellConfig → List Finding
between rule a one b other = found_from (between_at rule a one b other) 0 one.memory_regions

-- what a rule about two regions finds in the regions of the one cell with those of each cell
unfoldable pub from_cell : Rule → List CellConfig → ℕ → CellConfig → List Finding
from_cell rule all a one = found_from (between rule a one) 0 all

-- what a rule about two regions finds: in order of the one cell, the other, the one's region, and the other's
unfoldable pub in_pairs : Rule → List CellConfig → List Finding
in_pairs rule all = found_from (from_cell rule all) 0 all

-- what a rule about one region finds in a region of the cell
abbrev pub in_cell_at : Rule → Region → ℕ → List Region → ℕ → Region → List Finding
in_cell_at rule memory a regions r x = only_if (region_breaks rule memory a (take r regions) x) (finding_of rule a r 0 0)

-- what a rule about one region finds in each of these regions of a cell
unfoldable pub in_cell : Rule → Region → ℕ → List Region → List Finding
in_cell rule memory a regions = found_from (in_cell_at rule memory a regions) 0 regions

-- what a rule about one region finds in a cell, by its number
abbrev pub in_regions_at : Rule → Region → ℕ → CellConfig → List Finding
in_regions_at rule memory a cell = in_cell rule memory a cell.memory_regions

-- what a rule about one region finds in all cells
unfoldable pub in_regions : Rule → Region → List CellConfig → List Finding
in_regions rule memory all = found_from (in_regions_at rule memory) 0 all

-- what a rule about the hypervisor's memory finds
unfoldable pub in_hypervisor : Rule → Region → List Finding
in_hypervisor rule memory = only_if (hypervisor_breaks rule memory) (finding_of rule 16 0 0 0)

-- what the rule about a device finds in a device of the cell; `lower` are the cells with lower numbers
abbrev pub device_at : List CellConfig → ℕ → CellConfig → ℕ → PciDevice → List Finding
device_at lower a cell n device = only_if (device_breaks lower cell (take n cell.pci_devices) device) (finding_of Shmem a n 0 0)

-- what the rule about a device finds in the devices of the cell; `lower` are the cells with lower numbers
unfoldable pub in_devices_of : List CellConfig → ℕ → CellConfig → List Finding
in_devices_of lower a cell = found_from (device_at lower a cell) 0 cell.pci_devices

-- what the rule about a device finds in the devices of the cell with that number
abbrev pub in_devices_at : List CellConfig → ℕ → CellConfig → List Finding
in_devices_at all a cell = in_devices_of (take a all) a cell

-- what the rule about a device finds in all cells
unfoldable pub in_devices : List CellConfig → List Finding
in_devices all = found_from (in_devices_at all) 0 all

-- what the rule about a cell's CPUs finds in the cell with that number
abbrev pub in_cpus_at : ℕ → CellConfig → List Finding
in_cpus_at a cell = only_if (cpus_break cell.cpu_set) (finding_of NoCpu a 0 0 0)

-- what the rule about a cell's CPUs finds in all cells
unfoldable pub in_cpus : List CellConfig → List Finding
in_cpus all = found_from in_cpus_at 0 all

-- what is found by the rule, in all that it is about
unfoldable pub found_by : Rule → Region → List CellConfig → List Finding
found_by VirtOverlap memory all = in_pairs VirtOverlap all
found_by PhysOverlap memory all = in_pairs PhysOverlap all
found_by Hypervisor memory all = in_regions Hypervisor memory all
found_by OutOfRange memory all = in_regions OutOfRange memory all ++ in_hypervisor OutOfRange memory
found_by RootNotIdentity memory all = in_regions RootNotIdentity memory all
found_by CommInRoot memory all = in_regions CommInRoot memory all
found_by CommShape memory all = in_regions CommShape memory all
found_by ExecuteWithoutRead memory all = in_regions ExecuteWithoutRead memory all
found_by SubpageTaken memory all = in_pairs SubpageTaken all
found_by CellsOverlap memory all = in_pairs CellsOverlap all
found_by Shmem memory all = in_devices all
found_by NoCpu memory all = in_cpus all
found_by PhysAlign memory all = in_regions PhysAlign memory all ++ in_hypervisor PhysAlign memory

-- all rules, in the order of their numbers
abbrev pub rules_in_order : List Rule
rules_in_order =
    VirtOverlap ∷ PhysOverlap ∷ Hypervisor ∷ OutOfRange ∷ RootNotIdentity ∷ CommInRoot ∷ CommShape
    ∷ ExecuteWithoutRead ∷ SubpageTaken ∷ CellsOverlap ∷ Shmem ∷ NoCpu ∷ PhysAlign ∷ []

-- what is found by the rule of that index in the order
abbrev pub found_at : Region → List CellConfig → ℕ → Rule → List Finding
found_at memory all n rule = found_by rule memory all

-- all findings of the system and its cells, rule by rule
unfoldable pub findings : SystemConfig → List CellConfig → List Finding
findings system cells = found_from (found_at system.platform.hypervisor_memory (system.root ∷ cells)) 0 rules_in_order
