-- The words for a fault.
use Rattle.std.specs.Prelude.{ℕ, List, ◌++◌, codes}
use Rattle.std.specs.Fmt.{decimal}
use Rattle.jh_script.specs.declared.fault.ProgramFault.{ProgramFault}
use Rattle.jh_script.specs.declared.fault.ProgramFault.TheVariants.{Syntax, TooLong, Width, NoMemory}
use Rattle.jh_script.specs.declared.fault.ScheduleFault.{ScheduleFault}
use Rattle.jh_script.specs.declared.fault.ScheduleFault.TheVariants.{Item, TooLong as ScheduleTooLong, NoMemory as ScheduleNoMemory}

-- the words for a fault of a program's text
abbrev pub program_fault_text : ProgramFault → List ℕ
program_fault_text (Syntax line) = codes "line " ++ (decimal line ++ codes ": syntax")
program_fault_text TooLong = codes "program too long"
program_fault_text (Width line) = codes "line " ++ (decimal line ++ codes ": width")
program_fault_text NoMemory = codes "want of memory"

-- the words for a fault of a schedule's text
abbrev pub schedule_fault_text : ScheduleFault → List ℕ
schedule_fault_text (Item number) = codes "item " ++ decimal number
schedule_fault_text ScheduleTooLong = codes "schedule too long"
schedule_fault_text ScheduleNoMemory = codes "want of memory"
