-- What may happen to a CPU between being lent and being given back, one thing after another.
use Rattle.std.specs.Prelude.{◌≡◌, ℕ, true, false, List, fold}
use Rattle.jh_cpu.specs.declared.cpu.Cpu.{Cpu}
use Rattle.jh_cpu.specs.declared.cpu.Mode.TheVariants.{Running}
use Rattle.jh_cpu.specs.Changes.{asked_of, stopped_of, resumed, moved, parked, restarted, failed}

-- what may happen to a CPU: one of its changes
pub data Happening : Type 0 where
  Ask : Happening
  Stop : Happening
  Resume : Happening
  Move : Happening
  Park : Happening
  Restart : Happening
  Fail : Happening

-- the CPU after this has happened to it
abbrev pub happened : Cpu → Happening → Cpu
happened cpu Ask = asked_of cpu
happened cpu Stop = stopped_of cpu
happened cpu Resume = resumed cpu
happened cpu Move = moved cpu
happened cpu Park = parked cpu
happened cpu Restart = restarted cpu
happened cpu Fail = failed cpu

-- the CPU after all of these have happened to it, in order
abbrev pub after_all : Cpu → List Happening → Cpu
after_all = fold happened

-- the CPU is root's again and at the position: it would run, is stopped until the call that gave it back is over and not
-- asked to stop, and keeps nothing of another time
pub record IsBackInRoot (root position : ℕ) (cpu : Cpu) : Type 0 where
  pub owner : cpu.owner ≡ root
  pub mode : cpu.mode ≡ Running
  pub asked : cpu.asked ≡ false
  pub stopped : cpu.stopped ≡ true
  pub there : cpu.position ≡ position
  pub root_position : cpu.root_position ≡ 0
  pub failed : cpu.failed_in_root ≡ false
