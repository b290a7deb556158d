-- What an image is asked for before it is opened.
use Rattle.std.specs.Prelude.{◌≡◌, ◌≤◌, ◌+◌, ◌/◌, ℕ, Bool, ◌&&◌, nat_lt, nat_le, [], length, All, AllPairs, IsTrue}
use Rattle.jh_num.specs.declared.address.TheConstants.{ADDRESS_END, PAGE_SIZE}
use Rattle.jh_cellcfg.specs.declared.region.Region.{Region}
use Rattle.jh_cellcfg.specs.declared.config.SystemConfig.{SystemConfig}
use Rattle.jh_cellcfg.specs.Regions.{has_place}
use Rattle.jh_check.specs.Findings.{findings}
use Rattle.jh_shape.specs.Pages.{pages_of}
use Rattle.jh_script.specs.declared.image.Image.{Image}
use Rattle.jh_script.specs.declared.image.Program.{Program}
use Rattle.jh_script.specs.declared.image.Preload.{Preload}
use Rattle.jh_script.specs.declared.op.Op.{Op}
use Rattle.jh_script.specs.declared.op.Op.TheVariants.{Hvc}
use Rattle.jh_script.specs.Limits.{most_ops}
use Rattle.jh_script.specs.Operations.{IsWellFormed}
use Rattle.jh_history.specs.declared.entry.Act.{Act}
use Rattle.jh_history.specs.declared.entry.Act.TheVariants.{Read as ReadAct, Write as WriteAct}
use Rattle.jh_history.specs.Lives.{is_program_of}

-- the pages that root takes before any cell is created
abbrev pub root_pages : SystemConfig → ℕ
root_pages system = pages_of system.root.memory_regions []

-- the pages that the hypervisor has to give: its memory is the pool
abbrev pub pool_pages : SystemConfig → ℕ
pool_pages system = system.platform.hypervisor_memory.size / PAGE_SIZE

-- a system is admitted where the check finds nothing in it alone, and the pool has root's pages
pub record IsAdmittedSystem (system : SystemConfig) : Type 0 where
  pub clean : findings system [] ≡ []
  pub room : root_pages system ≤ pool_pages system

-- a program has at most 4,096 operations, each within its limits
pub record IsSoundProgram (program : Program) : Type 0 where
  pub few : length program.ops ≤ most_ops
  pub well_formed : All IsWellFormed program.ops

-- two programs are of different cells or CPUs
abbrev pub IsOtherProgram : Program → Program → Type 0
IsOtherProgram p q = IsTrue (is_program_of p.cell p.cpu q) → ⊥

-- the preload puts a byte at the place
abbrev pub has_byte_at : Preload → ℕ → Bool
has_byte_at preload place = nat_le preload.at place && nat_lt place (preload.at + length preload.bytes)

-- a preload ends within the places and lies outside the hypervisor's memory
pub record IsSoundPreload (hypervisor : Region) (preload : Preload) : Type 0 where
  pub within : preload.at + length preload.bytes ≤ ADDRESS_END
  pub clear : (place : ℕ) → IsTrue (has_place hypervisor place) → IsTrue (has_byte_at preload place) → ⊥

-- two preloads put no byte at the same place
abbrev pub IsOtherPreload : Preload → Preload → Type 0
IsOtherPreload p q = (place : ℕ) → IsTrue (has_byte_at p place) → IsTrue (has_byte_at q place) → ⊥

-- the image may be opened
pub record IsAdmitted (image : Image) : Type 0 where
  pub system : IsAdmittedSystem image.system
  pub preloads : All (IsSoundPreload image.system.platform.hypervisor_memory) image.preloads
  pub apart : AllPairs IsOtherPreload image.preloads
  pub programs : All IsSoundProgram image.programs
  pub owned : AllPairs IsOtherProgram image.programs

-- the operation is no hypercall
abbrev pub IsNoHypercall : Op → Type 0
IsNoHypercall (Hvc code a b) = ⊥
IsNoHypercall _ = Unit {0}

-- no program of the image has a hypercall
abbrev pub HasNoHypercall : Image → Type 0
HasNoHypercall image = All (λ (p : Program). All IsNoHypercall p.ops) image.programs

-- the act, where it is a read or a write, has at most 8 bytes
abbrev pub IsWellFormedAct : Act → Type 0
IsWellFormedAct (ReadAct width at got) = width ≤ 8
IsWellFormedAct (WriteAct width at value ok) = width ≤ 8
IsWellFormedAct _ = Unit {0}
