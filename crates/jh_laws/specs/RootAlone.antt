-- The legal journals in which root lives alone, and what stands before and behind an entry of one.
use Rattle.std.specs.Prelude.{ℕ, List, [], ◌∷◌, ◌++◌, All}
use Rattle.jh_cellcfg.specs.declared.config.CellConfig.{CellConfig}
use Rattle.jh_cellcfg.specs.declared.config.PciDevice.{PciDevice}
use Rattle.jh_check.specs.Clean.{IsShmem}
use Rattle.jh_cpu.specs.declared.cpu.Cpu.{Cpu}
use Rattle.jh_script.specs.declared.image.Image.{Image}
use Rattle.jh_history.specs.declared.form.Form.{Form}
use Rattle.jh_history.specs.declared.place.Place.{Place}
use Rattle.jh_history.specs.declared.entry.Entry.{Entry}
use Rattle.jh_history.specs.History.{facts}
use Rattle.jh_history.specs.Due.{IsLegal}
use Rattle.jh_history.specs.Admitted.{HasNoHypercall, IsAdmitted}

-- root has no ivshmem device
pub record HasNoShmemDevice (image : Image) : Type 0 where
  pub devices : All (λ (d : PciDevice). IsShmem d → ⊥) image.system.root.pci_devices

-- a legal journal of an image that a board may be opened with, whose root has no ivshmem device, and whose programs have
-- no hypercall: of one where root lives alone, and has no registers
pub record RootAloneJournal : Type 0 where
  pub image : Image
  pub form : Form
  pub entries : List Entry
  pub admitted : IsAdmitted image
  pub bare : HasNoShmemDevice image
  pub silent : HasNoHypercall image
  pub legal : IsLegal image form entries

-- an entry of a legal journal of an image where root lives alone, and has no registers, with the entries before it and
-- the rest behind it
pub record RootAloneMoment : Type 0 where
  pub image : Image
  pub form : Form
  pub before : List Entry
  pub entry : Entry
  pub rest : List Entry
  pub admitted : IsAdmitted image
  pub bare : HasNoShmemDevice image
  pub silent : HasNoHypercall image
  pub legal : IsLegal image form (before ++ entry ∷ rest)

-- the byte at the place after the entries
abbrev pub byte_at : Image → Form → List Entry → Place → ℕ
byte_at image form entries place = (facts image form entries).byte place

-- the state of the CPU after the entries
abbrev pub cpu_at : Image → Form → List Entry → ℕ → Cpu
cpu_at image form entries cpu = (facts image form entries).cpu cpu

-- the byte at the place just before the entry
abbrev pub byte_before : RootAloneMoment → Place → ℕ
byte_before m = byte_at m.image m.form m.before

-- the byte at the place just behind the entry
abbrev pub byte_behind : RootAloneMoment → Place → ℕ
byte_behind m = byte_at m.image m.form (m.before ++ m.entry ∷ [])

-- the state of the CPU just before the entry
abbrev pub cpu_before : RootAloneMoment → ℕ → Cpu
cpu_before m = cpu_at m.image m.form m.before

-- the state of the CPU just behind the entry
abbrev pub cpu_behind : RootAloneMoment → ℕ → Cpu
cpu_behind m = cpu_at m.image m.form (m.before ++ m.entry ∷ [])

-- all entries of the journal: those before the entry, the entry, and the rest
abbrev pub entries_of : RootAloneMoment → List Entry
entries_of m = m.before ++ m.entry ∷ m.rest

-- the cell whose CPU makes the entry: root is the one cell that there is
abbrev pub own_cell : RootAloneMoment → CellConfig
own_cell m = m.image.system.root

-- the cell of the journal's CPUs: root is the one cell that there is
abbrev pub root_of : RootAloneJournal → CellConfig
root_of j = j.image.system.root
