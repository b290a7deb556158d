-- Hypercalls: which begin a management call, and what the others are answered.
use Rattle.std.specs.Prelude.{ℕ, ℤ, ◌+◌, ◌==◌, ◌&&◌, ◌||◌, length, Option, Some, None, option_map, if◌then◌else◌}
use Rattle.jh_cellcfg.specs.declared.config.CellConfig.{CellConfig}
use Rattle.jh_shape.specs.Pages.{pages_of}
use Rattle.jh_cpu.specs.declared.cpu.Cpu.{Cpu}
use Rattle.jh_cpu.specs.declared.cpu.Mode.{Mode}
use Rattle.jh_cpu.specs.declared.cpu.Mode.TheVariants.{Running, Parked, Failed as HasFailed}
use Rattle.jh_cpu.specs.Changes.{is_failed}
use Rattle.jh_call.specs.declared.call.Call.{Call}
use Rattle.jh_call.specs.declared.call.Call.TheVariants.{State, CpuInfo, CpuOn, Affinity, Unknown}
use Rattle.jh_call.specs.declared.seen.Seen.{Seen}
use Rattle.jh_call.specs.declared.seen.CpuSeen.{CpuSeen}
use Rattle.jh_call.specs.declared.seen.CpuSeen.TheVariants.{Absent, Foreign, Fine, Failed}
use Rattle.jh_call.specs.declared.seen.PowerSeen.{PowerSeen}
use Rattle.jh_call.specs.declared.seen.PowerSeen.TheVariants.{Foreign as NotOwned, On, Off, Failed as IsDown}
use Rattle.jh_call.specs.Calls.{decoded, is_management, is_power}
use Rattle.jh_call.specs.Answers.{answer_of}
use Rattle.jh_script.specs.declared.image.Image.{Image}
use Rattle.jh_history.specs.declared.entry.Act.{Act}
use Rattle.jh_history.specs.declared.entry.Act.TheVariants.{Hvc, Begin}
use Rattle.jh_history.specs.declared.form.Form.{Form}
use Rattle.jh_history.specs.declared.form.Form.TheVariants.{One, Two}
use Rattle.jh_history.specs.Facts.{Facts}
use Rattle.jh_history.specs.Lives.{is_on_board, live_in}
use Rattle.jh_history.specs.Admitted.{pool_pages}
use Rattle.jh_history.specs.Phases.{state_word}
use Rattle.jh_shape.specs.Lives.{configs_of}

-- the state word of the live cell with the id, 0 for root
abbrev pub state_of_cell : Image → Facts → ℕ → Option ℕ
state_of_cell image facts id = if id == image.system.root.id then Some 0 else option_map (λ (c : CellConfig). state_word facts c.id) (live_in facts.cells id)

-- the state word that the call asks for, if it asks for one and a live cell has the id
abbrev pub state_seen : Image → Facts → Call → Option ℕ
state_seen image facts (State id) = state_of_cell image facts id
state_seen image facts call = None

-- what is seen of a CPU that may be seen: whether it has failed
abbrev pub mode_seen : Cpu → CpuSeen
mode_seen cpu = if is_failed cpu.mode then Failed else Fine

-- what the cell sees of the CPU: a cell besides root sees its own CPUs alone
abbrev pub cpu_seen_by : Image → Facts → ℕ → ℕ → CpuSeen
cpu_seen_by image facts cell cpu =
    if is_on_board image cpu
    then (if (cell == image.system.root.id) || ((facts.cpu cpu).owner == cell) then mode_seen (facts.cpu cpu) else Foreign)
    else Absent

-- what the cell sees of the CPU that the call asks for, if it asks for one
abbrev pub cpu_seen : Image → Facts → ℕ → Call → CpuSeen
cpu_seen image facts cell (CpuInfo cpu kind) = cpu_seen_by image facts cell cpu
cpu_seen image facts cell call = Absent

-- what a cell sees of a CPU of its own in this mode
abbrev pub power_of : Mode → PowerSeen
power_of Running = On
power_of Parked = Off
power_of HasFailed = IsDown

-- what the cell sees of the CPU, where it is to be switched on or told of: its own CPUs alone
abbrev pub power_seen_by : Image → Facts → ℕ → ℕ → PowerSeen
power_seen_by image facts cell cpu =
    if is_on_board image cpu && ((facts.cpu cpu).owner == cell) then power_of (facts.cpu cpu).mode else NotOwned

-- what the cell sees of the CPU that the call of the power interface names, if it names one
abbrev pub power_seen : Image → Facts → ℕ → Call → PowerSeen
power_seen image facts cell (CpuOn cpu) = power_seen_by image facts cell cpu
power_seen image facts cell (Affinity cpu level) = power_seen_by image facts cell cpu
power_seen image facts cell call = NotOwned

-- what is seen where the cell makes the call: the pages used are those of the live cells
abbrev pub seen_of : Image → Facts → ℕ → Call → Seen
seen_of image facts cell call = record {
  root = cell == image.system.root.id;
  size = pool_pages image.system;
  used = pages_of image.system.root.memory_regions (configs_of facts.cells);
  cells = length facts.cells + 1;
  state = state_seen image facts call;
  cpu = cpu_seen image facts cell call;
  power = power_seen image facts cell call;
}

-- the call as a journal of the form knows it: form One has no power interface
abbrev pub call_in : Form → Call → Call
call_in One call = if is_power call then Unknown else call
call_in Two call = call

-- what the cell's call is answered at once
abbrev pub answered : Image → Facts → ℕ → Call → ℤ
answered image facts cell call = answer_of call (seen_of image facts cell call)

-- root's calls that manage cells begin, and all others are answered at once
abbrev pub hvc_act : Image → Facts → ℕ → ℕ → ℕ → ℕ → Act
hvc_act image facts cell code a b =
    if (cell == image.system.root.id) && is_management (decoded code a b)
    then Begin code a b
    else Hvc code a b (answered image facts cell (call_in facts.form (decoded code a b)))
