-- What the hypervisor writes into communication pages, entry by entry.
use Rattle.std.specs.Prelude.{◌≡◌, ◌≢◌, ◌<◌, ◌≤◌, ◌+◌, ◌/◌, ◌%◌, ◌^◌, ◌⊎◌, ◌++◌, ◌∷◌, [], ℕ, true, false, Contains, Some, None, slice_index}
use Rattle.jh_cellcfg.specs.declared.config.CellConfig.{CellConfig}
use Rattle.jh_cellcfg.specs.Cells.{is_passive}
use Rattle.jh_shape.specs.Lives.{new_live}
use Rattle.jh_cpu.specs.declared.cpu.Mode.TheVariants.{Failed}
use Rattle.jh_call.specs.declared.call.Call.{Call}
use Rattle.jh_call.specs.declared.call.Call.TheVariants.{Create, Start, Loadable, Destroy}
use Rattle.jh_history.specs.declared.place.Place.TheVariants.{Page}
use Rattle.jh_history.specs.declared.entry.Settled.TheVariants.{Timeout}
use Rattle.jh_history.specs.declared.entry.Heard.TheVariants.{Timeout as Unheard}
use Rattle.jh_history.specs.declared.entry.Act.TheVariants.{Decide, Settle, Commit, Note, Noted}
use Rattle.jh_history.specs.Lives.{is_on_board}
use Rattle.jh_laws.specs.Moments.{AdmittedMoment, facts_before, facts_behind, state_behind, cells_before, call_before}
use Rattle.jh_laws.specs.Outcomes.{is_violation}

-- ---- pages

-- the communication page of the cell just before the entry, by offset
abbrev pub page_before : AdmittedMoment → ℕ → ℕ → ℕ
page_before m cell offset = (facts_before m).byte (Page cell offset)

-- the communication page of the cell just behind the entry, by offset
abbrev pub page_behind : AdmittedMoment → ℕ → ℕ → ℕ
page_behind m cell offset = (facts_behind m).byte (Page cell offset)

-- the page has the number, which is below 256, in the four bytes at the offset, the lowest first
abbrev pub HasWord : (ℕ → ℕ) → ℕ → ℕ → Type 0
HasWord page at number = (page at ≡ number) × (page (at + 1) ≡ 0) × (page (at + 2) ≡ 0) × (page (at + 3) ≡ 0)

-- the page has the bytes that it had, but for those from `first` on, up to and without `end`
abbrev pub KeepsAllBut : ℕ → ℕ → (ℕ → ℕ) → (ℕ → ℕ) → Type 0
KeepsAllBut first end before behind = (offset : ℕ) → (offset < first) ⊎ (end ≤ offset) → behind offset ≡ before offset

-- the page has the state, in bytes 8 to 11, and else what it had
pub record HasNewState (state : ℕ) (before behind : ℕ → ℕ) : Type 0 where
  pub word : HasWord behind 8 state
  pub others : KeepsAllBut 8 12 before behind

-- the page has the message, in bytes 12 to 15, no reply, in bytes 16 to 19, and else what it had
pub record HasNewMessage (message : ℕ) (before behind : ℕ → ℕ) : Type 0 where
  pub word : HasWord behind 12 message
  pub reply : HasWord behind 16 0
  pub others : KeepsAllBut 12 20 before behind

-- the page begins with the bytes of `JHCOMM` and revision 1; then come the state, no message, no reply and no flags,
-- the 32 bytes of the cell's console, and in eight bytes, the lowest first, where the ECAM window begins; all else is 0
pub record IsFreshPage (config : CellConfig) (ecam state : ℕ) (page : ℕ → ℕ) : Type 0 where
  pub name : (page 0 ≡ 74) × (page 1 ≡ 72) × (page 2 ≡ 67) × (page 3 ≡ 79) × (page 4 ≡ 77) × (page 5 ≡ 77)
  pub revision : (page 6 ≡ 1) × (page 7 ≡ 0)
  pub state_word : HasWord page 8 state
  pub message : HasWord page 12 0
  pub reply : HasWord page 16 0
  pub flags : HasWord page 20 0
  pub console : (k : ℕ) → k < 32 → page (24 + k) ≡ slice_index config.console k
  pub window : (k : ℕ) → k < 8 → page (56 + k) ≡ ecam / 256 ^ k % 256
  pub rest : (offset : ℕ) → 64 ≤ offset → offset < 4096 → page offset ≡ 0

-- ---- what is written, and when

-- the call is a start, a set loadable or a destroy of the cell with the id
abbrev pub IsCallAbout : Call → ℕ → Type 0
IsCallAbout (Start cell) id = cell ≡ id
IsCallAbout (Loadable cell) id = cell ≡ id
IsCallAbout (Destroy cell) id = cell ≡ id
IsCallAbout call id = ⊥

-- the open call is a start, a set loadable or a destroy of the live cell of the configuration
pub record IsCallOnCell (m : AdmittedMoment) (config : CellConfig) : Type 0 where
  pub call : Call
  pub begun : call_before m ≡ Some call
  pub about : IsCallAbout call config.id
  pub lives : Contains (cells_before m) config

-- the entry asks the cell with the id to shut down: it is the Decide of a call about it that goes on, and the cell
-- isn't passive
pub record AsksToShutDown (m : AdmittedMoment) (id : ℕ) : Type 0 where
  pub config : CellConfig
  pub named : config.id ≡ id
  pub call : IsCallOnCell m config
  pub active : is_passive config ≡ false
  pub goes : m.entry.act ≡ Decide None

-- the entry sends the cell with the id the message: 1 is the request to shut down, and 2, by a Note, that cells changed
abbrev pub SendsMessage : AdmittedMoment → ℕ → ℕ → Type 0
SendsMessage m id message = (AsksToShutDown m id × (message ≡ 1)) ⊎ ((m.entry.act ≡ Note id) × (message ≡ 2))

-- the entry settles that the time of the cell with the id is over, which the call is about
pub record SettlesByTime (m : AdmittedMoment) (id : ℕ) : Type 0 where
  pub config : CellConfig
  pub named : config.id ≡ id
  pub call : IsCallOnCell m config
  pub late : m.entry.act ≡ Settle Timeout

-- by the entry the cell with the id, which isn't root, has no CPU any more that hasn't failed: the entry is a violation
-- of one of its CPUs, and each of them has failed behind it
pub record LosesItsCpus (m : AdmittedMoment) (id : ℕ) : Type 0 where
  pub own : m.entry.cell ≡ id
  pub violates : is_violation m.entry.act ≡ true
  pub cell : id ≢ m.image.system.root.id
  pub failed : (cpu : ℕ) → is_on_board m.image cpu ≡ true → (state_behind m cpu).owner ≡ id → (state_behind m cpu).mode ≡ Failed

-- the entry gives the cell with the id the state FAILED, 3: its time was over, or it has no CPU left
abbrev pub Fails : AdmittedMoment → ℕ → Type 0
Fails m id = SettlesByTime m id ⊎ (m.entry.act ≡ Noted id Unheard) ⊎ LosesItsCpus m id

-- the entry makes the cell with the id loadable: it is the Commit of such a call
pub record MakesLoadable (m : AdmittedMoment) (id : ℕ) : Type 0 where
  pub begun : call_before m ≡ Some (Loadable id)
  pub commits : m.entry.act ≡ Commit

-- the entry gives the cell with the id the state: 3 where it fails, and 2, SHUT_DOWN, where it is made loadable
abbrev pub SetsState : AdmittedMoment → ℕ → ℕ → Type 0
SetsState m id state = (Fails m id × (state ≡ 3)) ⊎ (MakesLoadable m id × (state ≡ 2))

-- by the entry, the Commit of a create, the cell of the configuration comes
pub record Creates (m : AdmittedMoment) (config : CellConfig) : Type 0 where
  pub at : ℕ
  pub begun : call_before m ≡ Some (Create at)
  pub commits : m.entry.act ≡ Commit
  pub joins : (facts_behind m).cells ≡ (facts_before m).cells ++ new_live config ∷ []

-- the entry starts the cell of the configuration: it is the Commit of such a call
pub record Starts (m : AdmittedMoment) (config : CellConfig) : Type 0 where
  pub begun : call_before m ≡ Some (Start config.id)
  pub commits : m.entry.act ≡ Commit
  pub lives : Contains (cells_before m) config

-- the entry gives the cell of the configuration a fresh page with the state: 2, SHUT_DOWN, where the cell is created,
-- and 0, RUNNING, where it is started
abbrev pub RenewsPage : AdmittedMoment → CellConfig → ℕ → Type 0
RenewsPage m config state = (Creates m config × (state ≡ 2)) ⊎ (Starts m config × (state ≡ 0))

-- the entry changes the page of the cell with the id in one of these ways
abbrev pub ChangesPage : AdmittedMoment → ℕ → Type 0
ChangesPage m id =
    ((message : ℕ) × SendsMessage m id message)
    ⊎ ((state : ℕ) × SetsState m id state)
    ⊎ ((config : CellConfig) × (state : ℕ) × (config.id ≡ id) × RenewsPage m config state)
