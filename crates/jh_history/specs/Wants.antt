-- The operation that a CPU is about to make, and what the access of an entry reaches.
use Rattle.std.specs.Prelude.{◌≡◌, ℕ, Bool, not, ◌&&◌, Option, None, if◌then◌else◌}
use Rattle.jh_cpu.specs.declared.cpu.Cpu.{Cpu}
use Rattle.jh_script.specs.declared.image.Image.{Image}
use Rattle.jh_script.specs.declared.op.Op.{Op}
use Rattle.jh_history.specs.declared.access.Access.TheVariants.{Write as ToWrite}
use Rattle.jh_history.specs.declared.access.Reach.{Reach}
use Rattle.jh_history.specs.declared.access.Wanted.{Wanted}
use Rattle.jh_history.specs.declared.entry.Entry.{Entry}
use Rattle.jh_history.specs.declared.entry.Act.{Act}
use Rattle.jh_history.specs.declared.entry.Act.TheVariants.{Write}
use Rattle.jh_history.specs.Cpus.{is_running}
use Rattle.jh_history.specs.Facts.{Facts}
use Rattle.jh_history.specs.Lives.{op_at}
use Rattle.jh_history.specs.Grants.{reach}

-- what the wanted access reaches, made by the cell
abbrev pub reach_of : Image → Facts → ℕ → Wanted → Reach
reach_of image facts cell wanted = reach image facts cell wanted.access wanted.at wanted.width

-- a CPU in this state goes on with its program: it runs, and is neither asked to stop nor stopped
abbrev pub goes_on : Cpu → Bool
goes_on state = not state.asked && not state.stopped && is_running state.mode

-- the operation that a CPU in this state is about to make: none where it doesn't go on, or is at its program's end
abbrev pub pending_op : Image → Facts → Cpu → ℕ → Option Op
pending_op image facts state cpu = if goes_on state then op_at image facts state cpu else None

-- what was found is what the act of the cell reaches, where that is a write
abbrev pub IsReachOfAct : Image → Facts → ℕ → Act → Reach → Type 0
IsReachOfAct image facts cell (Write width at value ok) found = found ≡ reach image facts cell ToWrite at width
IsReachOfAct image facts cell _ found = Unit {0}

-- what was found is what the entry's act reaches, made by its cell, where that is a write
abbrev pub IsReachOfEntry : Image → Facts → Entry → Reach → Type 0
IsReachOfEntry image facts entry found = IsReachOfAct image facts entry.cell entry.act found
