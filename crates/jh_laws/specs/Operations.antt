-- Entries as operations of programs, and which operations are due.
use Rattle.std.specs.Prelude.{◌≡◌, ℕ, false, ◌==◌, List, Option, Some, None, slice_get, IsTrue, if◌then◌else◌}
use Rattle.std.specs.List.{filter_map}
use Rattle.jh_cellcfg.specs.declared.config.CellConfig.{CellConfig}
use Rattle.jh_cellcfg.specs.Cells.{name_of}
use Rattle.jh_cpu.specs.declared.cpu.Mode.TheVariants.{Running}
use Rattle.jh_script.specs.declared.image.Image.{Image}
use Rattle.jh_history.specs.declared.form.Form.{Form}
use Rattle.jh_script.specs.declared.op.Op.{Op}
use Rattle.jh_script.specs.declared.op.Op.TheVariants.{Read as ReadOp, Write as WriteOp, Fetch as FetchOp, Await as AwaitOp, Irq as IrqOp, Hvc as HvcOp}
use Rattle.jh_history.specs.declared.entry.Entry.{Entry}
use Rattle.jh_history.specs.declared.entry.Act.{Act}
use Rattle.jh_history.specs.declared.entry.Act.TheVariants.{Read, Write, Fetch, Await, Irq, Hvc, Begin}
use Rattle.jh_history.specs.History.{facts}
use Rattle.jh_history.specs.Lives.{is_on_board, program_ops}
use Rattle.jh_laws.specs.Moments.{AdmittedMoment, state_before}
use Rattle.jh_laws.specs.RootAlone.{cpu_at}
use Rattle.jh_laws.specs.Ready.{IsDueIn}
use Rattle.jh_laws.specs.Outcomes.{HasItsOutcome}

-- the operation that the act is, without its outcome; a stop and the later phases of a management call are none
abbrev pub op_of_act : Act → Option Op
op_of_act (Read width at got) = Some (ReadOp width at)
op_of_act (Write width at value ok) = Some (WriteOp width at value)
op_of_act (Fetch at got) = Some (FetchOp at)
op_of_act (Await width at value ok) = Some (AwaitOp width at value)
op_of_act (Irq device vector) = Some IrqOp
op_of_act (Hvc code a b answer) = Some (HvcOp code a b)
op_of_act (Begin code a b) = Some (HvcOp code a b)
op_of_act _ = None

-- the operation of the entry, where the CPU made it
abbrev pub op_by : ℕ → Entry → Option Op
op_by cpu entry = if entry.cpu == cpu then op_of_act entry.act else None

-- the operations that the CPU made, in order
abbrev pub operations_by : ℕ → List Entry → List Op
operations_by cpu entries = filter_map (op_by cpu) entries

-- the operations of the CPU's program in the cell
abbrev pub program_in : Image → CellConfig → ℕ → List Op
program_in image cell cpu = program_ops image (name_of cell) cpu

-- the operation that the entry's CPU is at just before the entry, in its program of the cell
abbrev pub op_before : AdmittedMoment → CellConfig → Option Op
op_before m cell = slice_get (program_in m.image cell m.entry.cpu) (state_before m m.entry.cpu).position

-- the cell's operation is due after the entries, where root has no ivshmem device and no program a hypercall: there an
-- interrupt is never due, there is no hypercall, and any other operation is due as it is anywhere
abbrev pub IsDueOp : Image → Form → List Entry → CellConfig → Op → Type 0
IsDueOp image form entries cell IrqOp = ⊥
IsDueOp image form entries cell (HvcOp code a b) = ⊥
IsDueOp image form entries cell op = IsDueIn image (facts image form entries) cell.id op

-- the CPU, which is the cell's, is one of the board's, runs, is neither asked to stop nor stopped, and
-- its program has an operation at its position that is due
pub record IsReady (image : Image) (form : Form) (entries : List Entry) (cell : CellConfig) (cpu : ℕ) : Type 0 where
  pub board : IsTrue (is_on_board image cpu)
  pub running : (cpu_at image form entries cpu).mode ≡ Running
  pub asked : (cpu_at image form entries cpu).asked ≡ false
  pub stopped : (cpu_at image form entries cpu).stopped ≡ false
  pub op : Op
  pub at : slice_get (program_in image cell cpu) (cpu_at image form entries cpu).position ≡ Some op
  pub due : IsDueOp image form entries cell op

-- the entry is what the CPU, which is the cell's, makes of the operation at its position: it has that
-- CPU, the id of the CPU's owner, and the operation with its outcome
pub record IsCpusOwn (image : Image) (form : Form) (entries : List Entry) (cell : CellConfig) (cpu : ℕ) (entry : Entry) : Type 0 where
  pub cpu_is : entry.cpu ≡ cpu
  pub cell_is : entry.cell ≡ (cpu_at image form entries cpu).owner
  pub operation : op_of_act entry.act ≡ slice_get (program_in image cell cpu) (cpu_at image form entries cpu).position
  pub outcome : HasItsOutcome image form entries cell entry.act
