-- Pending vectors of devices: what raises one, and what drops it. A vector is pending exactly where it was raised while it
-- was open, and wasn't taken since, nor its device reset or gone: behind an entry the vectors that are pending are those
-- that it raises and those that were pending before it, but for those that it drops.
use Rattle.std.specs.Prelude.{◌≡◌, ◌≢◌, ◌≤◌, ◌⊎◌, ◌/◌, ◌%◌, ◌^◌, ℕ, true, false, [], ◌∷◌, Contains, Option, Some, IsTrue}
use Rattle.jh_ivshmem.specs.declared.endpoint.Endpoint.{Endpoint}
use Rattle.jh_ivshmem.specs.declared.vector.Vector.{Vector}
use Rattle.jh_ivshmem.specs.Endpoint.{is_open, vector_at}
use Rattle.jh_ivshmem.specs.Links.{endpoint_at, is_pending}
use Rattle.jh_call.specs.declared.call.Call.{Call}
use Rattle.jh_call.specs.declared.call.Call.TheVariants.{Start, Destroy}
use Rattle.jh_script.specs.declared.image.Image.{Image}
use Rattle.jh_history.specs.declared.access.Access.TheVariants.{Write as ToWrite}
use Rattle.jh_history.specs.declared.call.OpenCall.{OpenCall}
use Rattle.jh_history.specs.declared.entry.Entry.{Entry}
use Rattle.jh_history.specs.declared.entry.Act.{Act}
use Rattle.jh_history.specs.declared.entry.Act.TheVariants.{Write, Irq, Commit}
use Rattle.jh_history.specs.Facts.{Facts}
use Rattle.jh_laws.specs.Ends.{IsAnsweredByRegister}
use Rattle.jh_laws.specs.Moments.{AdmittedMoment, facts_before, facts_behind}

-- the vector of the device of the cell is pending
abbrev pub IsPendingIn : Facts → ℕ → ℕ → ℕ → Type 0
IsPendingIn f id n v = is_pending id n v f.endpoints ≡ true

-- a vector of a device of the cell with the id is pending
abbrev pub HasPending : Facts → ℕ → Type 0
HasPending f id = (n : ℕ) × (v : ℕ) × IsPendingIn f id n v

-- the vector is the one that the cell's next interrupt takes: no pending vector of the cell is of a lower device, nor a
-- lower one of the same device
pub record IsNextVector (f : Facts) (id n v : ℕ) : Type 0 where
  pub pending : IsPendingIn f id n v
  pub device : (m u : ℕ) → IsPendingIn f id m u → n ≤ m
  pub vector : (u : ℕ) → IsPendingIn f id n u → v ≤ u

-- ---- writes of registers

-- the cell's act writes the value to the register at the offset in BAR 0 of a device of its own, whose endpoint is this
abbrev pub PutsRegister : Image → Facts → ℕ → Act → ℕ → ℕ → Endpoint → Type 0
PutsRegister image f id (Write width at value ok) offset put e = IsTrue ok × (put ≡ value) × ((n : ℕ) × IsAnsweredByRegister image f id ToWrite at width n 0 offset e)
PutsRegister image f id act offset put e = ⊥

-- the entry rings the vector of the peer: by a write to the doorbell of an endpoint of its link, itself or another, with
-- the vector in bits 0 to 15 and the peer's number in bits 16 to 31
pub record Rings (image : Image) (f : Facts) (entry : Entry) (peer : Endpoint) (v : ℕ) : Type 0 where
  pub bell : Endpoint
  pub value : ℕ
  pub puts : PutsRegister image f entry.cell entry.act 0x0c value bell
  pub link : bell.spec.bdf ≡ peer.spec.bdf
  pub target : value / 2 ^ 16 ≡ peer.spec.id
  pub vector : value % 2 ^ 16 ≡ v

-- ---- states

-- the call is a start or a destroy of the cell
abbrev pub IsStartOrDestroyOf : Call → ℕ → Type 0
IsStartOrDestroyOf (Start cell) id = cell ≡ id
IsStartOrDestroyOf (Destroy cell) id = cell ≡ id
IsStartOrDestroyOf call id = ⊥

-- the entry resets the devices of the cell, or has them leave: it commits a start or a destroy of it
pub record Clears (f : Facts) (entry : Entry) (id : ℕ) : Type 0 where
  pub call : OpenCall
  pub begun : f.call ≡ Some call
  pub about : IsStartOrDestroyOf call.call id
  pub commits : entry.act ≡ Commit

-- by the entry the state of the endpoint becomes another: its cell writes another value to its state register, or its
-- device is reset or leaves, and its state wasn't 0
abbrev pub ChangesState : Image → Facts → Entry → Endpoint → Type 0
ChangesState image f entry e =
    ((value : ℕ) × PutsRegister image f entry.cell entry.act 0x10 value e × (value ≢ e.state))
    ⊎ (Clears f entry e.spec.cell × (e.state ≢ 0))

-- the entry tells the peer that the state of another endpoint of its link becomes another
pub record NotifiesPeer (image : Image) (f : Facts) (entry : Entry) (peer : Endpoint) : Type 0 where
  pub one : Endpoint
  pub there : Contains f.endpoints one
  pub changes : ChangesState image f entry one
  pub link : one.spec.bdf ≡ peer.spec.bdf
  pub other : one.spec.id ≢ peer.spec.id

-- ---- raised and dropped

-- the entry raises the vector of the cell's device, where it is open: a write to a doorbell does, or for vector 0 a
-- change of the state of another endpoint of the link
pub record Raises (image : Image) (f : Facts) (entry : Entry) (id n v : ℕ) : Type 0 where
  pub peer : Endpoint
  pub there : endpoint_at id n f.endpoints ≡ Some peer
  pub let_through : is_open peer v ≡ true
  pub by : Rings image f entry peer v ⊎ ((v ≡ 0) × NotifiesPeer image f entry peer)

-- the entry drops a pending vector of the cell's device: it is taken, or the device is reset or leaves
abbrev pub Drops : Facts → Entry → ℕ → ℕ → ℕ → Type 0
Drops f entry id n v = ((entry.cell ≡ id) × (entry.act ≡ Irq n v)) ⊎ Clears f entry id

-- ---- what cells do to one another by devices

-- the endpoint is there just before the entry, is of another cell than the one that makes it, and stays: the entry neither
-- starts nor destroys its cell
pub record StaysAnothers (m : AdmittedMoment) (e : Endpoint) : Type 0 where
  pub there : Contains (facts_before m).endpoints e
  pub other : m.entry.cell ≢ e.spec.cell
  pub stays : Clears (facts_before m) m.entry e.spec.cell → ⊥

-- the endpoint of the same device of the same cell just behind the entry
abbrev pub endpoint_behind : AdmittedMoment → Endpoint → Option Endpoint
endpoint_behind m e = endpoint_at e.spec.cell e.spec.device (facts_behind m).endpoints

-- the vector but for whether it is pending: its address, its message and its mask, which its own cell writes
abbrev pub written_part : Vector → Vector
written_part vector = record vector { pending = false }

-- the endpoint, behind an entry of another cell than its own, keeps what is fixed of it, its configuration space, its
-- state and the words and masks of its vectors; its interrupt control is another only where the entry raises a vector
-- of it; what was pending is pending still, and what is pending was so before or is raised by the entry
pub record IsKeptByOthers (image : Image) (f : Facts) (entry : Entry) (before behind : Endpoint) : Type 0 where
  pub spec : behind.spec ≡ before.spec
  pub space : behind.space ≡ before.space
  pub state : behind.state ≡ before.state
  pub control : behind.control ≢ before.control → (v : ℕ) × Raises image f entry before.spec.cell before.spec.device v
  pub words : (v : ℕ) → written_part (vector_at behind v) ≡ written_part (vector_at before v)
  pub pending : (v : ℕ) → IsPendingIn f before.spec.cell before.spec.device v → is_pending before.spec.cell before.spec.device v (behind ∷ []) ≡ true
  pub raised : (v : ℕ) → is_pending before.spec.cell before.spec.device v (behind ∷ []) ≡ true
      → IsPendingIn f before.spec.cell before.spec.device v ⊎ Raises image f entry before.spec.cell before.spec.device v
