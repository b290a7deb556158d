-- One step of a chain of steps that may find a fault, and the steps behind it.
use Rattle.std.proofs.Common.{◌≡◌, ℕ, List, Result, Ok, Err, refl, sym, ap, ◌∙◌}
use Rattle.jh_spec.specs.declared.fault.JsonFault.{JsonFault}
use Rattle.jh_spec.specs.declared.fault.JsonFault.TheVariants.{Json, Member, NoMemory}
use Rattle.jh_spec.specs.Faults.{told_and_then, ◌>>=◌, IsFaultOf}
use Rattle.jh_spec.specs.Private.Faults.{IsAsWanted}

-- this step found no fault
pub step : {X Y : Type 0} (w : Result X JsonFault) (x : X) (next : X → Result Y JsonFault) (r : Result Y JsonFault) → IsAsWanted w (Ok x) → IsAsWanted (next x) r → IsAsWanted (w >>= next) r
unfolding told_and_then
step w x next r is later = rw is.answer later

-- this step found one
pub stop : {X Y : Type 0} (w : Result X JsonFault) (next : X → Result Y JsonFault) (fault : JsonFault) → IsAsWanted w (Err fault) → IsAsWanted (w >>= next) (Err fault)
unfolding told_and_then
stop w next NoMemory is = record { answer = tt }
stop w next Json is = record { answer = ap (λ v. v >>= next) is.answer }
stop w next (Member name) is = record { answer = ap (λ v. v >>= next) is.answer }

pub ended : {X : Type 0} (x : X) → IsAsWanted (Ok x) (Ok x)
ended x = record { answer = refl }

pub no_memory : {X : Type 0} (w : Result X JsonFault) (fault : JsonFault) → fault ≡ NoMemory → IsAsWanted w (Err fault)
no_memory w fault is = rw is (record { answer = tt })

pub at_fault : {X : Type 0} (w : Result X JsonFault) (name : List ℕ) (fault : JsonFault) → w ≡ Err (Member name) → IsFaultOf name fault → IsAsWanted w (Err fault)
at_fault w name NoMemory is h = record { answer = tt }
at_fault w name Json is h = absurd h
at_fault w name (Member found) is h = record { answer = is ∙ ap (λ n. Err (Member n)) (sym h) }
