-- What an entry does to CPUs.
use Rattle.std.specs.Prelude.{◌≡◌, ℕ, ℤ, pos, negsuc, zero, suc, ◌<◌, Bool, true, false, ◌==◌, ◌&&◌, ◌||◌, not, List, length, slice_get, Option, Some, is_some, if◌then◌else◌}
use Rattle.std.specs.Option.{option_map_or}
use Rattle.jh_num.specs.Below.{any_below}
use Rattle.jh_cellcfg.specs.Cells.{name_of, is_cpu_set}
use Rattle.jh_cpu.specs.declared.cpu.Cpu.{Cpu}
use Rattle.jh_cpu.specs.declared.cpu.Mode.{Mode}
use Rattle.jh_cpu.specs.declared.cpu.Mode.TheVariants.{Running, Parked, Failed}
use Rattle.jh_cpu.specs.Changes.{moved, failed, asked_of, stopped_of, resumed, lent, parked, restarted, returned}
use Rattle.jh_call.specs.declared.call.Call.{Call}
use Rattle.jh_call.specs.declared.call.Call.TheVariants.{Create, Start, Loadable, Destroy, CpuOff, CpuOn}
use Rattle.jh_call.specs.Calls.{decoded}
use Rattle.jh_script.specs.declared.image.Image.{Image}
use Rattle.jh_history.specs.declared.call.OpenCall.{OpenCall}
use Rattle.jh_history.specs.declared.call.Phase.{Phase}
use Rattle.jh_history.specs.declared.call.Phase.TheVariants.{ToCreate}
use Rattle.jh_history.specs.declared.change.Change.{Change}
use Rattle.jh_history.specs.declared.change.Change.TheVariants.{Stay, Step, Fail, Stop as Halt}
use Rattle.jh_history.specs.declared.entry.Entry.{Entry}
use Rattle.jh_history.specs.declared.entry.Settled.{Settled}
use Rattle.jh_history.specs.declared.entry.Settled.TheVariants.{Agreed, Denied, Timeout}
use Rattle.jh_history.specs.declared.entry.Act.{Act}
use Rattle.jh_history.specs.declared.entry.Act.TheVariants.{Read, Write, Fetch, Await, Irq, Hvc, Begin, Stop, Settle, Commit, Finish}
use Rattle.jh_history.specs.declared.form.Form.{Form}
use Rattle.jh_history.specs.declared.form.Form.TheVariants.{One, Two}
use Rattle.jh_history.specs.Facts.{Facts}
use Rattle.jh_history.specs.Lives.{is_on_board, program_ops}
use Rattle.jh_history.specs.Calls.{is_named}

-- a CPU in this mode runs
abbrev pub is_running : Mode → Bool
is_running Running = true
is_running Parked = false
is_running Failed = false

-- an access that succeeds is done, and a violation fails its CPU
abbrev pub change_if : Bool → Change
change_if true = Step
change_if false = Fail

-- what the act does to the CPU that makes it; acts that change other CPUs, too, have cases of their own in `acted`
abbrev pub change_of : Act → Change
change_of (Read width at got) = change_if (is_some got)
change_of (Write width at value ok) = change_if ok
change_of (Fetch at got) = change_if (is_some got)
change_of (Await width at value ok) = change_if ok
change_of (Irq device vector) = Step
change_of (Hvc code a b answer) = Step
change_of Stop = Halt
change_of _ = Stay

-- the CPU after the change: a violation moves its CPU, too
abbrev pub changed : Change → Cpu → Cpu
changed Stay cpu = cpu
changed Step cpu = moved cpu
changed Fail cpu = failed (moved cpu)
changed Halt cpu = stopped_of cpu

-- at the Begin each running CPU of root is asked to stop, but the caller
abbrev pub asked_by_begin : Image → ℕ → ℕ → Cpu → Cpu
asked_by_begin image own i cpu =
    if is_on_board image i && not (i == own) && (cpu.owner == image.system.root.id) && is_running cpu.mode
    then asked_of cpu else cpu

-- the Settle isn't denied, so the call goes on after it
abbrev pub is_undenied : Settled → Bool
is_undenied Agreed = true
is_undenied Denied = false
is_undenied Timeout = true

-- at a Settle that isn't denied each running CPU of the call's cell is asked to stop
abbrev pub cpu_by_settle : Bool → Call → Cpu → Cpu
cpu_by_settle undenied call cpu = if undenied && is_named call cpu.owner && is_running cpu.mode then asked_of cpu else cpu

-- where in root's program a CPU goes on that had failed there before it was lent: at the end
abbrev pub end_in_root : Image → ℕ → ℕ
end_in_root image i = length (program_ops image (name_of image.system.root) i)

-- the form is One
abbrev pub is_one : Form → Bool
is_one One = true
is_one Two = false

-- a start of its cell lets CPU i run: in form One each does, in form Two the lowest that its owner has
abbrev pub runs_by_start : Facts → ℕ → Bool
runs_by_start facts i = is_one facts.form || not (any_below (λ k. (facts.cpu k).owner == (facts.cpu i).owner) i)

-- at the Commit of a create the new cell is lent its CPUs; by a start those of the cell's CPUs that `runs` lets run from
-- their programs' beginnings, and its others are parked; by a set loadable they are parked, by a destroy root has them
-- again
abbrev pub cpu_by_commit : Image → Bool → Call → Phase → ℕ → Cpu → Cpu
cpu_by_commit image runs (Create at) (ToCreate config) i cpu = if is_cpu_set config.cpu_set i then lent config.id cpu else cpu
cpu_by_commit image runs (Start id) phase i cpu = if cpu.owner == id then (if runs then restarted cpu else parked cpu) else cpu
cpu_by_commit image runs (Loadable id) phase i cpu = if cpu.owner == id then parked cpu else cpu
cpu_by_commit image runs (Destroy id) phase i cpu = if cpu.owner == id then returned image.system.root.id (end_in_root image i) cpu else cpu
cpu_by_commit image runs _ phase i cpu = cpu

-- the CPU, resumed where it is root's
abbrev pub resumed_of_root : ℕ → Cpu → Cpu
resumed_of_root root cpu = if cpu.owner == root then resumed cpu else cpu

-- at the Finish no CPU of root is stopped any more, and the caller has done its operation
abbrev pub cpu_by_finish : Image → ℕ → ℕ → Cpu → Cpu
cpu_by_finish image own i cpu = let going = resumed_of_root image.system.root.id cpu in if i == own then moved going else going

-- a call with this answer was granted
abbrev pub is_granted : ℤ → Bool
is_granted (pos zero) = true
is_granted (pos (suc n)) = false
is_granted (negsuc n) = false

-- CPU i after the call that CPU `own` was granted: one that is switched off is parked, and one that is switched on runs
-- from its program's beginning
abbrev pub switched : Call → ℕ → ℕ → Cpu → Cpu
switched CpuOff own i cpu = if i == own then parked cpu else cpu
switched (CpuOn on) own i cpu = if i == on then restarted cpu else cpu
switched _ own i cpu = cpu

-- the call, where it is granted, switches a CPU on or off
abbrev pub is_switch : Call → Bool
is_switch CpuOff = true
is_switch (CpuOn on) = true
is_switch _ = false

-- the act is a call that was granted, and that switches a CPU on or off
abbrev pub switches : Act → Bool
switches (Hvc code a b answer) = is_granted answer && is_switch (decoded code a b)
switches _ = false

-- CPU i after the call of CPU `own`, which was answered: the caller has done its operation
abbrev pub cpu_by_call : Call → ℤ → ℕ → ℕ → Cpu → Cpu
cpu_by_call call answer own i cpu =
    let made = if i == own then moved cpu else cpu in if is_granted answer then switched call own i made else made

-- CPU i after the act, which is CPU `own`'s; the call is the one that is open before it, and `runs` says whether a start
-- lets the CPU run
abbrev pub acted : Image → Bool → Option OpenCall → Act → ℕ → ℕ → Cpu → Cpu
acted image runs call (Begin code a b) own i cpu = asked_by_begin image own i cpu
acted image runs call (Hvc code a b answer) own i cpu = cpu_by_call (decoded code a b) answer own i cpu
acted image runs call (Settle how) own i cpu = option_map_or (λ (o : OpenCall). cpu_by_settle (is_undenied how) o.call cpu) call cpu
acted image runs call Commit own i cpu = option_map_or (λ (o : OpenCall). cpu_by_commit image runs o.call o.phase i cpu) call cpu
acted image runs call (Finish answer) own i cpu = cpu_by_finish image own i cpu
acted image runs call act own i cpu = if i == own then changed (change_of act) cpu else cpu

-- the list has the states of CPUs 0 to 15, in order
abbrev pub ListsCpus : List Cpu → (ℕ → Cpu) → Type 0
ListsCpus cpus state = (i : ℕ) → i < 16 → slice_get cpus i ≡ Some (state i)

-- the CPUs after an entry
abbrev pub cpu_after : Image → Facts → Entry → ℕ → Cpu
cpu_after image facts entry i = acted image (runs_by_start facts i) facts.call entry.act entry.cpu i (facts.cpu i)
