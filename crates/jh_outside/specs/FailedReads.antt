-- What files of the system keep of the reads that failed.
use Rattle.std.specs.Prelude.{◌≡◌, ℕ, List}
use Rattle.jh_num.specs.Numbers.{counted_up}
use Rattle.jh_outside.specs.Ask.{Ask, ReadAnswer, Handed, Faulted, LackedMemory}

-- how many reads answered an `Err`, for want of memory too, and the name of the last that answered `Fault`
pub record FailedReads : Type 0 where
  pub faults : ℕ
  pub failed : List ℕ

-- what files of the system keep after a read of the name with this answer: each `Err` is counted
abbrev pub failed_reads_after : FailedReads → List ℕ → ReadAnswer → FailedReads
failed_reads_after old name Handed = old
failed_reads_after old name Faulted = record { faults = counted_up old.faults; failed = name }
failed_reads_after old name LackedMemory = record old { faults = counted_up old.faults }

-- what a read of files of the system does to what they keep
abbrev pub AsksSystem : FailedReads → Ask → FailedReads → Type 0
AsksSystem old ask new = new ≡ failed_reads_after old ask.name ask.answer
