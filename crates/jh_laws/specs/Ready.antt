-- When an entry is due to a CPU.
use Rattle.std.specs.Prelude.{◌≡◌, ◌≢◌, ◌≤◌, ◌⊎◌, ℕ, true, false, Contains, Some, None}
use Rattle.jh_cellcfg.specs.declared.config.CellConfig.{CellConfig}
use Rattle.jh_cellcfg.specs.Cells.{is_passive}
use Rattle.jh_cpu.specs.declared.cpu.Mode.TheVariants.{Running}
use Rattle.jh_script.specs.declared.image.Image.{Image}
use Rattle.jh_script.specs.declared.op.Op.{Op}
use Rattle.jh_script.specs.declared.op.Op.TheVariants.{Await as AwaitOp, Irq as IrqOp}
use Rattle.jh_history.specs.declared.access.Access.TheVariants.{Read as ToRead}
use Rattle.jh_history.specs.declared.call.OpenCall.{OpenCall}
use Rattle.jh_history.specs.declared.call.Phase.{Phase}
use Rattle.jh_history.specs.declared.call.Phase.TheVariants.{ToDecide, ToSettle, ToCreate, ToCommit, ToNote, ToNoted, ToFinish}
use Rattle.jh_history.specs.Facts.{Facts}
use Rattle.jh_history.specs.Lives.{is_on_board, op_at}
use Rattle.jh_history.specs.Calls.{is_named}
use Rattle.jh_history.specs.Phases.{state_word, reply_word, is_down}
use Rattle.jh_shape.specs.Lives.{configs_of}
use Rattle.jh_history.specs.Due.{due_at}
use Rattle.jh_history.specs.Sound.{IsCalm}
use Rattle.jh_laws.specs.Ends.{IsAnswered, IsReadBy}
use Rattle.jh_laws.specs.Vectors.{HasPending}

-- the cell's operation is due: an await where the access is a violation or reads the value that it waits for, an
-- interrupt where a vector of a device of the cell is pending, any other always
abbrev pub IsDueIn : Image → Facts → ℕ → Op → Type 0
IsDueIn image f id (AwaitOp width at value) = IsAnswered image f id ToRead at width → IsReadBy image f id ToRead at width value
IsDueIn image f id IrqOp = HasPending f id
IsDueIn image f id _ = Unit {0}

-- nothing is due to any CPU but the caller
abbrev pub NothingElseIsDue : Image → Facts → ℕ → Type 0
NothingElseIsDue image f caller = (cpu : ℕ) → cpu ≢ caller → due_at image f cpu ≡ None

-- the cell's time is over: its CPUs have made as many entries as its configuration gives it, if that isn't 0, or nothing
-- is due to any CPU but the caller
abbrev pub IsTimeOver : Image → Facts → ℕ → CellConfig → ℕ → Type 0
IsTimeOver image f caller config waited = ((config.msg_reply_timeout ≢ 0) × (config.msg_reply_timeout ≤ waited)) ⊎ NothingElseIsDue image f caller

-- the cell that was asked or told is waited for no more: it is down, there is a reply, or its time is over
abbrev pub IsWaitedForNoMore : Image → Facts → ℕ → CellConfig → ℕ → Type 0
IsWaitedForNoMore image f caller config waited = (is_down (state_word f config.id) ≡ true) ⊎ (reply_word f config.id ≢ 0) ⊎ IsTimeOver image f caller config waited

-- each CPU of root on the board but the caller has stopped, where it was asked to
abbrev pub RootHasStopped : Image → Facts → ℕ → Type 0
RootHasStopped image f caller = (i : ℕ) → is_on_board image i ≡ true → i ≢ caller → (f.cpu i).owner ≡ image.system.root.id → (f.cpu i).asked ≡ false

-- the phase of the call is due to its caller
abbrev pub IsPhaseDue : Image → Facts → OpenCall → Phase → Type 0
IsPhaseDue image f o ToDecide = RootHasStopped image f o.caller
IsPhaseDue image f o (ToSettle waited) =
    (config : CellConfig) × Contains (configs_of f.cells) config × (is_named o.call config.id ≡ true) × ((is_passive config ≡ true) ⊎ IsWaitedForNoMore image f o.caller config waited)
IsPhaseDue image f o (ToCreate config) = Unit {0}
IsPhaseDue image f o ToCommit = (i : ℕ) → is_named o.call (f.cpu i).owner ≡ true → (f.cpu i).asked ≡ false
IsPhaseDue image f o (ToNote id about answer) = Unit {0}
IsPhaseDue image f o (ToNoted id about answer waited) = (config : CellConfig) × Contains (configs_of f.cells) config × (config.id ≡ id) × IsWaitedForNoMore image f o.caller config waited
IsPhaseDue image f o (ToFinish answer) = Unit {0}

-- the CPU has its call open, and its next phase is due
abbrev pub IsReadyCaller : Image → Facts → ℕ → Type 0
IsReadyCaller image f cpu = (o : OpenCall) × (f.call ≡ Some o) × (o.caller ≡ cpu) × IsPhaseDue image f o o.phase

-- the CPU has no call open, goes on with its program, and is at the operation
pub record IsAtOperation (image : Image) (f : Facts) (cpu : ℕ) (op : Op) : Type 0 where
  pub none : (o : OpenCall) → f.call ≡ Some o → o.caller ≢ cpu
  pub running : (f.cpu cpu).mode ≡ Running
  pub calm : IsCalm (f.cpu cpu)
  pub at : op_at image f (f.cpu cpu) cpu ≡ Some op

-- the CPU has no call open, goes on with its program, and its operation is due
pub record IsReadyProgram (image : Image) (f : Facts) (cpu : ℕ) : Type 0 where
  pub op : Op
  pub at : IsAtOperation image f cpu op
  pub due : IsDueIn image f (f.cpu cpu).owner op

-- the CPU is the board's, has no call open, goes on with its program, and is at the wait for an interrupt
pub record IsAtInterrupt (image : Image) (f : Facts) (cpu : ℕ) : Type 0 where
  pub board : is_on_board image cpu ≡ true
  pub at : IsAtOperation image f cpu IrqOp

-- the CPU is the board's, and is asked to stop, or has a phase of its call due, or an operation of its program
pub record IsReadyAt (image : Image) (f : Facts) (cpu : ℕ) : Type 0 where
  pub board : is_on_board image cpu ≡ true
  pub what : ((f.cpu cpu).asked ≡ true) ⊎ IsReadyCaller image f cpu ⊎ IsReadyProgram image f cpu
