-- Answers of one step among several.
use Rattle.std.specs.Prelude.{Result}
use Rattle.jh_spec.specs.declared.fault.JsonFault.{JsonFault}
use Rattle.jh_spec.specs.Faults.{IsWantedReading}

-- an answer is the one that is wanted, or want of memory
pub record IsAsWanted {X : Type 0} (wanted result : Result X JsonFault) : Type 0 where
  pub answer : IsWantedReading wanted result
