-- What a cell's writes leave of its own devices, and how a device begins.
use Rattle.std.specs.Prelude.{◌≡◌, ◌≢◌, ◌≤◌, ◌-◌, ◌*◌, ◌%◌, ◌==◌, ◌⊎◌, ℕ, Bool, true, false}
use Rattle.jh_cellcfg.specs.declared.config.CellConfig.{CellConfig}
use Rattle.jh_vpci.specs.Writes.{written as space_written}
use Rattle.jh_ivshmem.specs.declared.endpoint.Endpoint.{Endpoint}
use Rattle.jh_ivshmem.specs.declared.vector.Vector.{Vector}
use Rattle.jh_ivshmem.specs.Endpoint.{vector_at}
use Rattle.jh_history.specs.declared.access.Access.TheVariants.{Write as ToWrite}
use Rattle.jh_history.specs.declared.entry.Act.{Act}
use Rattle.jh_history.specs.declared.entry.Act.TheVariants.{Write, Irq, Commit}
use Rattle.jh_laws.specs.Ends.{IsAnsweredByConfig, IsAnsweredByRegister, IsFunctionAt}
use Rattle.jh_laws.specs.Moments.{AdmittedMoment, facts_before}
use Rattle.jh_laws.specs.Pages.{Creates, Starts}

-- ---- writes

-- the entry writes the value to so many bytes at the offset in the ECAM window, where its cell has the function of the
-- endpoint
pub record PutsFunction (m : AdmittedMoment) (offset width value : ℕ) (e : Endpoint) : Type 0 where
  pub at : ℕ
  pub act : m.entry.act ≡ Write width at value true
  pub answered : IsAnsweredByConfig m.image (facts_before m).cells m.entry.cell ToWrite at width
  pub there : offset ≡ at - m.image.system.platform.pci_mmconfig_base
  pub function : IsFunctionAt m.image (facts_before m) m.entry.cell offset e

-- the entry writes the value to the register at the offset in the BAR of the endpoint, which is its cell's
pub record PutsWord (m : AdmittedMoment) (bar offset value : ℕ) (e : Endpoint) : Type 0 where
  pub width : ℕ
  pub at : ℕ
  pub number : ℕ
  pub act : m.entry.act ≡ Write width at value true
  pub answered : IsAnsweredByRegister m.image (facts_before m) m.entry.cell ToWrite at width number bar offset e

-- the endpoint, with its configuration space as a write of the value to so many bytes at the offset in it leaves it,
-- and all else as it was
abbrev pub with_space : ℕ → ℕ → ℕ → Endpoint → Endpoint
with_space offset width value e = record e { space = space_written e.space offset width value }

-- the endpoint, with interrupt control as bit 0 of the value says, and all else as it was
abbrev pub with_control : ℕ → Endpoint → Endpoint
with_control value e = record e { control = value % 2 == 1 }

-- the endpoint, with the value as its state, and all else as it was
abbrev pub with_state : ℕ → Endpoint → Endpoint
with_state value e = record e { state = value }

-- the vector has the value in its word of that number, the mask in bit 0 of the last one, and else what it had
pub record HasVectorWord (word value : ℕ) (before behind : Vector) : Type 0 where
  pub address : word ≡ 0 → behind ≡ record before { address = value }
  pub upper_address : word ≡ 1 → behind ≡ record before { upper_address = value }
  pub message : word ≡ 2 → behind ≡ record before { message = value }
  pub mask : word ≡ 3 → behind ≡ record before { masked = value % 2 == 1 }

-- the endpoint has the value in the word of that number of the vector, and else what it had
pub record HasWordOfVector (v word value : ℕ) (before behind : Endpoint) : Type 0 where
  pub put : HasVectorWord word value (vector_at before v) (vector_at behind v)
  pub others : (u : ℕ) → u ≢ v → vector_at behind u ≡ vector_at before u
  pub spec : behind.spec ≡ before.spec
  pub space : behind.space ≡ before.space
  pub control : behind.control ≡ before.control
  pub state : behind.state ≡ before.state

-- the register takes no write: in BAR 0 it is neither interrupt control nor the doorbell nor the state, and in BAR 1 it
-- lies behind the words of the endpoint's vectors
abbrev pub TakesNothing : ℕ → ℕ → Endpoint → Type 0
TakesNothing bar offset e =
    ((bar ≡ 0) × (offset ≢ 0x08) × (offset ≢ 0x0c) × (offset ≢ 0x10))
    ⊎ ((bar ≢ 0) × (16 * e.spec.function.vectors ≤ offset))

-- the act may change devices: it is a write that succeeds, an interrupt or a Commit
abbrev pub may_change_devices : Act → Bool
may_change_devices (Write width at value true) = true
may_change_devices (Irq device vector) = true
may_change_devices Commit = true
may_change_devices _ = false

-- ---- how a device begins

-- nothing of the endpoint is set: its windows, bus mastering, MSI-X and one-shot are off and its BARs 0, interrupt
-- control is off, its state is 0, and each vector is masked, has no address and no message, and isn't pending
pub record IsFresh (e : Endpoint) : Type 0 where
  pub memory : e.space.memory ≡ false
  pub bus_master : e.space.bus_master ≡ false
  pub interrupts_off : e.space.interrupts_off ≡ false
  pub bar0 : e.space.bar0 ≡ 0
  pub bar1 : e.space.bar1 ≡ 0
  pub one_shot : e.space.one_shot ≡ false
  pub masked : e.space.masked ≡ false
  pub enabled : e.space.enabled ≡ false
  pub control : e.control ≡ false
  pub state : e.state ≡ 0
  pub vectors : (v : ℕ) → vector_at e v ≡ record { address = 0; upper_address = 0; message = 0; masked = true; pending = false }

-- by the entry the devices of the cell of the configuration begin anew: it commits a create or a start of it
abbrev pub BeginsDevices : AdmittedMoment → CellConfig → Type 0
BeginsDevices m config = Creates m config ⊎ Starts m config
