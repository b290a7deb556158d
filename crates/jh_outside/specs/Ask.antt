-- One read: the name that is asked, and what is answered.
use Rattle.std.specs.Prelude.{ℕ, List, Result, Ok, Err}
use Rattle.jh_outside.specs.declared.files.FileFault.{FileFault}
use Rattle.jh_outside.specs.declared.files.FileFault.TheVariants.{Fault, NoMemory}

-- what a read answers: bytes, that it failed, or want of memory
pub data ReadAnswer : Type 0 where
  Handed : ReadAnswer
  Faulted : ReadAnswer
  LackedMemory : ReadAnswer

-- one read: the name that was asked, and what was answered
pub record Ask : Type 0 where
  pub name : List ℕ
  pub answer : ReadAnswer

-- the read of this name with this answer
abbrev pub ask_of : {X : Type 0} → List ℕ → Result X FileFault → Ask
ask_of name (Ok _) = record { name = name; answer = Handed }
ask_of name (Err Fault) = record { name = name; answer = Faulted }
ask_of name (Err NoMemory) = record { name = name; answer = LackedMemory }

-- the read of the file of this name, which handed out bytes
abbrev pub handed : List ℕ → Ask
handed name = record { name = name; answer = Handed }

-- the read of the file of this name, which could not be read
abbrev pub faulted : List ℕ → Ask
faulted name = record { name = name; answer = Faulted }

-- the name that is kept after a read of this name with this answer, where `failed` was kept before: that of the last
-- read that answered `Fault`
abbrev pub kept_name : List ℕ → List ℕ → ReadAnswer → List ℕ
kept_name failed name Handed = failed
kept_name failed name Faulted = name
kept_name failed name LackedMemory = failed
