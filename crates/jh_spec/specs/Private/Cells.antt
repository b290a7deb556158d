-- What is known of the parts of a cell that are read one after another, and of a fault inside root.
use Rattle.std.specs.Prelude.{◌≡◌, ◌≤◌, length, codes, IsTrue}
use Rattle.jh_cellcfg.specs.Limits.{is_name}
use Rattle.jh_spec.specs.declared.fault.JsonFault.{JsonFault}
use Rattle.jh_spec.specs.declared.fault.JsonFault.TheVariants.{Json, Member, NoMemory}
use Rattle.jh_spec.specs.declared.cell.Identity.{Identity}
use Rattle.jh_spec.specs.declared.cell.Lists.{Lists}
use Rattle.jh_spec.specs.Faults.{IsFaultOf}

-- the name and the CPU bitmap that are told are within the limits
pub record IsIdentity (identity : Identity) : Type 0 where
  pub name : IsTrue (is_name identity.name)
  pub some_cpus : 1 ≤ length identity.cpu_set
  pub cpu_set : length identity.cpu_set ≤ 64

-- the lists that are told are within the limits
pub record AreLists (lists : Lists) : Type 0 where
  pub memory_regions : length lists.memory_regions ≤ 1024
  pub irqchips : length lists.irqchips ≤ 64
  pub pci_devices : length lists.pci_devices ≤ 256

-- what a fault inside root is found to be
abbrev pub IsFaultInRoot : JsonFault → JsonFault → Type 0
IsFaultInRoot NoMemory found = found ≡ NoMemory
IsFaultInRoot Json found = IsFaultOf (codes "root") found
IsFaultInRoot (Member name) found = IsFaultOf (codes "root") found
