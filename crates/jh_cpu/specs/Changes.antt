-- What changes one CPU, a word for each change. What a word doesn't name stays.
use Rattle.std.specs.Prelude.{ℕ, ◌+◌, ◌-◌, ◌^◌, Bool, true, false, if◌then◌else◌, min}
use Rattle.jh_cpu.specs.declared.cpu.Cpu.{Cpu}
use Rattle.jh_cpu.specs.declared.cpu.Mode.{Mode}
use Rattle.jh_cpu.specs.declared.cpu.Mode.TheVariants.{Running, Parked, Failed}

-- a CPU in this mode has failed
abbrev pub is_failed : Mode → Bool
is_failed Running = false
is_failed Parked = false
is_failed Failed = true

-- a CPU as the board is opened: root's, at the beginning of its program
abbrev pub opened : ℕ → Cpu
opened root = record { owner = root; mode = Running; asked = false; stopped = false; position = 0; root_position = 0; failed_in_root = false }

-- the CPU, now asked to stop
abbrev pub asked_of : Cpu → Cpu
asked_of cpu = record cpu { asked = true }

-- the CPU, now stopped and no longer asked to
abbrev pub stopped_of : Cpu → Cpu
stopped_of cpu = record cpu { asked = false; stopped = true }

-- the CPU, no longer stopped, so that it goes on
abbrev pub resumed : Cpu → Cpu
resumed cpu = record cpu { stopped = false }

-- the CPU one operation further, or still at the last number of 32 bits
abbrev pub moved : Cpu → Cpu
moved cpu = record cpu { position = min (cpu.position + 1) (2 ^ 32 - 1) }

-- the CPU, parked and not stopped, since its cell isn't started
abbrev pub parked : Cpu → Cpu
parked cpu = record cpu { mode = Parked; stopped = false }

-- the CPU, running from its program's beginning and not stopped
abbrev pub restarted : Cpu → Cpu
restarted cpu = record cpu { mode = Running; stopped = false; position = 0 }

-- the CPU, failed, since an access of it was a violation
abbrev pub failed : Cpu → Cpu
failed cpu = record cpu { mode = Failed }

-- the CPU as root lends it to the owner: it is parked there, and what comes back with it is kept
abbrev pub lent : ℕ → Cpu → Cpu
lent owner cpu = record {
  owner = owner;
  mode = Parked;
  asked = false;
  stopped = false;
  position = 0;
  root_position = cpu.position;
  failed_in_root = is_failed cpu.mode;
}

-- where in its program in root, of so many operations, the CPU goes on: at the end where it had failed there
abbrev pub position_in_root : ℕ → Cpu → ℕ
position_in_root end cpu = if cpu.failed_in_root then end else cpu.root_position

-- the CPU as root has it again: it would run, and is stopped until the call that gave it back is over
abbrev pub returned : ℕ → ℕ → Cpu → Cpu
returned root end cpu = record {
  owner = root;
  mode = Running;
  asked = false;
  stopped = true;
  position = position_in_root end cpu;
  root_position = 0;
  failed_in_root = false;
}
