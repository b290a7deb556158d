-- What entries do to CPUs.
use Rattle.std.specs.Prelude.{◌≡◌, ◌≢◌, ◌<◌, ◌++◌, ◌∷◌, ◌&&◌, [], ℕ, Bool, true, false, List, length}
use Rattle.jh_cellcfg.specs.declared.config.CellConfig.{CellConfig}
use Rattle.jh_cellcfg.specs.Cells.{is_cpu_set}
use Rattle.jh_cpu.specs.declared.cpu.Cpu.{Cpu}
use Rattle.jh_cpu.specs.declared.cpu.Mode.TheVariants.{Running, Parked}
use Rattle.jh_call.specs.declared.call.Call.{Call}
use Rattle.jh_call.specs.declared.call.Call.TheVariants.{Create, Start, Loadable, Destroy, CpuOff, CpuOn}
use Rattle.jh_call.specs.Calls.{decoded}
use Rattle.jh_script.specs.declared.image.Image.{Image}
use Rattle.jh_history.specs.declared.form.Form.{Form}
use Rattle.jh_history.specs.declared.form.Form.TheVariants.{One, Two}
use Rattle.jh_history.specs.declared.entry.Act.{Act}
use Rattle.jh_history.specs.declared.entry.Settled.TheVariants.{Denied}
use Rattle.jh_history.specs.declared.entry.Act.TheVariants.{Hvc, Begin, Decide, Settle, Commit, Note, Noted, Finish, Stop}
use Rattle.jh_history.specs.Cpus.{is_granted}
use Rattle.jh_history.specs.Lives.{is_on_board}
use Rattle.jh_history.specs.Calls.{is_named}
use Rattle.jh_laws.specs.Moves.{stepped, told_to_stop, going_on, begun_anew, at_rest, IsLentTo, IsGivenBack}
use Rattle.jh_laws.specs.Moments.{AdmittedMoment, state_before, state_behind}
use Rattle.jh_laws.specs.Operations.{program_in}

-- the call is one by which a CPU is switched on
abbrev pub is_on : Call → Bool
is_on (CpuOn cpu) = true
is_on _ = false

-- the call is one by which a CPU is switched off
abbrev pub is_off : Call → Bool
is_off CpuOff = true
is_off _ = false

-- the act is a call that was granted, and by which its CPU is switched off
abbrev pub switches_off : Act → Bool
switches_off (Hvc code a b answer) = is_granted answer && is_off (decoded code a b)
switches_off _ = false

-- the act may change other CPUs than the one that makes it: it begins or ends a call, or is a Settle, a Commit or a call
-- that was granted and by which a CPU is switched on
abbrev pub changes_others : Act → Bool
changes_others (Hvc code a b answer) = is_granted answer && is_on (decoded code a b)
changes_others (Begin code a b) = true
changes_others (Settle how) = true
changes_others Commit = true
changes_others (Finish answer) = true
changes_others _ = false

-- the act changes no CPU, its own neither: it is a Decide, a Settle that is denied, a Note or a Noted
abbrev pub changes_none : Act → Bool
changes_none (Decide refused) = true
changes_none (Settle Denied) = true
changes_none (Note id) = true
changes_none (Noted id how) = true
changes_none _ = false

-- the act is a stop
abbrev pub is_stop_act : Act → Bool
is_stop_act Stop = true
is_stop_act _ = false

-- at a beginning another running CPU of root on the board is asked to stop, and every other CPU stays as it is
pub record HasBegun (image : Image) (own i : ℕ) (before behind : Cpu) : Type 0 where
  pub asked : is_on_board image i ≡ true → i ≢ own → before.owner ≡ image.system.root.id → before.mode ≡ Running → behind ≡ told_to_stop before
  pub absent : is_on_board image i ≡ false → behind ≡ before
  pub caller : i ≡ own → behind ≡ before
  pub foreign : before.owner ≢ image.system.root.id → behind ≡ before
  pub rests : before.mode ≢ Running → behind ≡ before

-- at a Settle that isn't denied a running CPU of the cell that the call is about is asked to stop, and every other CPU
-- stays as it is
pub record HasSettled (call : Call) (before behind : Cpu) : Type 0 where
  pub asked : is_named call before.owner ≡ true → before.mode ≡ Running → behind ≡ told_to_stop before
  pub foreign : is_named call before.owner ≡ false → behind ≡ before
  pub rests : before.mode ≢ Running → behind ≡ before

-- by a start of its cell each CPU begins, in form One; in form Two the cell's lowest begins, and its others rest
abbrev pub HasStarted : Form → (ℕ → Cpu) → ℕ → ℕ → Cpu → Cpu → Type 0
HasStarted One state id i before behind = before.owner ≡ id → behind ≡ begun_anew before
HasStarted Two state id i before behind =
    (before.owner ≡ id → ((k : ℕ) → k < i → (state k).owner ≢ id) → behind ≡ begun_anew before)
    × ((k : ℕ) → before.owner ≡ id → k < i → (state k).owner ≡ id → behind ≡ at_rest before)

-- by its Commit a create lends its cell's CPUs to it, where they rest; a start has the cell's CPUs begin as its form
-- says, a set loadable has them rest, and a destroy gives them back to root; every other CPU stays as it is
abbrev pub HasCommitted : Image → Form → (ℕ → Cpu) → List CellConfig → List CellConfig → Call → ℕ → Cpu → Cpu → Type 0
HasCommitted image form state old new (Create at) i before behind =
    (config : CellConfig) × (new ≡ old ++ config ∷ [])
    × (is_cpu_set config.cpu_set i ≡ true → IsLentTo config.id before behind)
    × (is_cpu_set config.cpu_set i ≡ false → behind ≡ before)
HasCommitted image form state old new (Start id) i before behind = HasStarted form state id i before behind × (before.owner ≢ id → behind ≡ before)
HasCommitted image form state old new (Loadable id) i before behind = (before.owner ≡ id → behind ≡ at_rest before) × (before.owner ≢ id → behind ≡ before)
HasCommitted image form state old new (Destroy id) i before behind =
    (before.owner ≡ id → IsGivenBack image.system.root.id (length (program_in image image.system.root i)) before behind) × (before.owner ≢ id → behind ≡ before)
HasCommitted image form state old new call i before behind = ⊥

-- at the end root's CPUs go on, the caller has done its operation, and every other CPU stays as it is
pub record HasFinished (image : Image) (own i : ℕ) (before behind : Cpu) : Type 0 where
  pub caller : i ≡ own → behind ≡ stepped before
  pub roots : i ≢ own → before.owner ≡ image.system.root.id → behind ≡ going_on before
  pub foreign : before.owner ≢ image.system.root.id → behind ≡ before

-- by the call of the entry's CPU another one of its cell, which isn't root, is switched on: it rested, and begins. The
-- caller has done its operation, and every other CPU stays as it is
pub record HasSwitchedOn (m : AdmittedMoment) (on : ℕ) : Type 0 where
  pub cell : m.entry.cell ≢ m.image.system.root.id
  pub board : is_on_board m.image on ≡ true
  pub other : on ≢ m.entry.cpu
  pub owner : (state_before m on).owner ≡ m.entry.cell
  pub rested : (state_before m on).mode ≡ Parked
  pub begins : state_behind m on ≡ begun_anew (state_before m on)
  pub caller : state_behind m m.entry.cpu ≡ stepped (state_before m m.entry.cpu)
  pub others : (cpu : ℕ) → cpu ≢ on → cpu ≢ m.entry.cpu → state_behind m cpu ≡ state_before m cpu

-- by its call the entry's CPU, whose cell isn't root, is switched off: it has done its operation, and rests. Every other
-- CPU stays as it is
pub record HasSwitchedOff (m : AdmittedMoment) : Type 0 where
  pub cell : m.entry.cell ≢ m.image.system.root.id
  pub rests : state_behind m m.entry.cpu ≡ at_rest (stepped (state_before m m.entry.cpu))
  pub others : (cpu : ℕ) → cpu ≢ m.entry.cpu → state_behind m cpu ≡ state_before m cpu
