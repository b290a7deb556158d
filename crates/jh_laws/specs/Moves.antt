-- What an entry does to its CPU.
use Rattle.std.specs.Prelude.{◌≡◌, ◌≢◌, ◌+◌, ℕ, true, false}
use Rattle.jh_cpu.specs.declared.cpu.Cpu.{Cpu}
use Rattle.jh_cpu.specs.declared.cpu.Mode.TheVariants.{Running, Parked, Failed}

-- the CPU one operation further, and all else of it as it was
abbrev pub stepped : Cpu → Cpu
stepped cpu = record cpu { position = cpu.position + 1 }

-- the CPU one operation further and failed, and all else of it as it was
abbrev pub ended : Cpu → Cpu
ended cpu = record cpu { position = cpu.position + 1; mode = Failed }

-- the CPU asked to stop, and all else of it as it was
abbrev pub told_to_stop : Cpu → Cpu
told_to_stop cpu = record cpu { asked = true }

-- the CPU stopped, no longer asked to, and all else of it as it was
abbrev pub halted : Cpu → Cpu
halted cpu = record cpu { asked = false; stopped = true }

-- the CPU no longer stopped, and all else of it as it was
abbrev pub going_on : Cpu → Cpu
going_on cpu = record cpu { stopped = false }

-- the CPU running from the beginning of its program, not stopped, and all else of it as it was
abbrev pub begun_anew : Cpu → Cpu
begun_anew cpu = record cpu { mode = Running; stopped = false; position = 0 }

-- the CPU at rest, not stopped, and all else of it as it was
abbrev pub at_rest : Cpu → Cpu
at_rest cpu = record cpu { mode = Parked; stopped = false }

-- the CPU is the cell's with the id, where it rests, neither asked to stop nor stopped, before its first operation; how
-- far it was in root's program is kept, and whether it had failed there
pub record IsLentTo (id : ℕ) (before behind : Cpu) : Type 0 where
  pub owner : behind.owner ≡ id
  pub mode : behind.mode ≡ Parked
  pub asked : behind.asked ≡ false
  pub stopped : behind.stopped ≡ false
  pub position : behind.position ≡ 0
  pub root_position : behind.root_position ≡ before.position
  pub failed : before.mode ≡ Failed → behind.failed_in_root ≡ true
  pub unfailed : before.mode ≢ Failed → behind.failed_in_root ≡ false

-- the CPU is root's again, runs, isn't asked to stop, and is stopped; it is where it was in root's program, or at the
-- program's end where it had failed there, and nothing else is kept of the time before
pub record IsGivenBack (root end : ℕ) (before behind : Cpu) : Type 0 where
  pub owner : behind.owner ≡ root
  pub mode : behind.mode ≡ Running
  pub asked : behind.asked ≡ false
  pub stopped : behind.stopped ≡ true
  pub ended : before.failed_in_root ≡ true → behind.position ≡ end
  pub position : before.failed_in_root ≡ false → behind.position ≡ before.root_position
  pub root_position : behind.root_position ≡ 0
  pub failed : behind.failed_in_root ≡ false
