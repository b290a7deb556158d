-- What the text of a schedule tells.
use Rattle.std.specs.Prelude.{◌&&◌, ℕ, ◌+◌, ◌<◌, IsTrue, Bool, ◌==◌, nat_lt, if◌then◌else◌, Option, Some, None, Result, List, [], ◌∷◌, map}
use Rattle.jh_num.specs.Bits.{has_bit}
use Rattle.jh_script.specs.declared.fault.ScheduleFault.{ScheduleFault}
use Rattle.jh_script.specs.declared.fault.ScheduleFault.TheVariants as faults
use Rattle.jh_script.specs.Numbers.{decimal_of}
use Rattle.jh_script.specs.Words.{words, schedule_gaps}
use Rattle.jh_script.specs.Programs.{unless}
use Rattle.jh_script.specs.Limits.{most_items}

-- bit n of the set says that the board has CPU n
abbrev pub has_cpu : ℕ → ℕ → Bool
has_cpu cpus n = has_bit cpus n

-- the number is that of a CPU of the board; there are 16 numbers
abbrev pub IsPresent : ℕ → ℕ → Type 0
IsPresent cpus n = (n < 16) × IsTrue (has_cpu cpus n)

-- the CPU of the board that the number is, if it is one
abbrev pub cpu_of : ℕ → Option ℕ → Option ℕ
cpu_of cpus None = None
cpu_of cpus (Some n) = if nat_lt n 16 && has_cpu cpus n then Some n else None

-- the items of the text, in order: a CPU of the board in decimal, or none
unfoldable pub items_of : ℕ → List ℕ → List (Option ℕ)
items_of cpus text = map (λ word. cpu_of cpus (decimal_of word)) (words schedule_gaps text)

-- the first fault of items that stand behind others; items count from 1
unfoldable pub first_refusal : ℕ → List (Option ℕ) → Option ScheduleFault
first_refusal before [] = None
first_refusal before (None ∷ more) = if before == most_items then Some faults.TooLong else Some (faults.Item (before + 1))
first_refusal before (Some cpu ∷ more) = if before == most_items then Some faults.TooLong else first_refusal (before + 1) more

-- the CPUs of the items, in order
unfoldable pub cpus_of : List (Option ℕ) → List ℕ
cpus_of [] = []
cpus_of (None ∷ more) = cpus_of more
cpus_of (Some cpu ∷ more) = cpu ∷ cpus_of more

-- the CPUs of the items, or the first fault
unfoldable pub schedule_of : ℕ → List ℕ → Result (List ℕ) ScheduleFault
schedule_of cpus text = unless (first_refusal 0 (items_of cpus text)) (cpus_of (items_of cpus text))
