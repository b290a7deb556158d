-- Steps that may find a fault: a member that tells nothing, or a name that isn't listed.
use Rattle.std.specs.Prelude.{◌≡◌, ⊤, List, ℕ, Option, Some, None, Result, Ok, Err, false, is_some}
use Rattle.serde_json.specs.Data.{Data}
use Rattle.serde_json.specs.Find.{as_object}
use Rattle.jh_spec.specs.declared.fault.JsonFault.{JsonFault}
use Rattle.jh_spec.specs.declared.fault.JsonFault.TheVariants.{Json, Member, NoMemory}
use Rattle.jh_spec.specs.Json.{IsText, first_unlisted}

-- what the next step tells, where this one finds no fault
unfoldable pub told_and_then : {X Y : Type 0} → (X → Result Y JsonFault) → Result X JsonFault → Result Y JsonFault
told_and_then next (Ok x) = next x
told_and_then next (Err fault) = Err fault

infixl 10 ◌>>=◌
-- the next step of a `do`
abbrev pub ◌>>=◌ : {X Y : Type 0} → Result X JsonFault → (X → Result Y JsonFault) → Result Y JsonFault
told >>= next = told_and_then next told

-- what the member of this name tells; it is at fault where it tells nothing
abbrev pub member_told : {X : Type 0} → List ℕ → Option X → Result X JsonFault
member_told name (Some x) = Ok x
member_told name None = Err (Member name)

-- a name is at fault where there is one
abbrev pub no_name : Option (List ℕ) → Result ⊤ JsonFault
no_name None = Ok tt
no_name (Some name) = Err (Member name)

-- an object has these names alone, or the first of the others is at fault
abbrev pub all_listed : List (List ℕ) → Data → Result ⊤ JsonFault
all_listed names d = no_name (first_unlisted names d)

-- an error is the fault of the member of this name, or want of memory
abbrev pub IsFaultOf : List ℕ → JsonFault → Type 0
IsFaultOf name (Member found) = found ≡ name
IsFaultOf name Json = ⊥
IsFaultOf name NoMemory = ⊤

-- the answer is the one that is wanted, or want of memory, whichever it is
abbrev pub IsWantedReading : {X : Type 0} → Result X JsonFault → Result X JsonFault → Type 0
IsWantedReading wanted (Ok x) = wanted ≡ Ok x
IsWantedReading wanted (Err NoMemory) = ⊤
IsWantedReading wanted (Err Json) = wanted ≡ Err Json
IsWantedReading wanted (Err (Member name)) = wanted ≡ Err (Member name)

-- why no object was read: the bytes are no object's text, or there is want of memory
abbrev pub IsNoObject : List ℕ → JsonFault → Type 0
IsNoObject bytes Json = (d : Data) → IsText bytes d → is_some (as_object d) ≡ false
IsNoObject bytes (Member name) = ⊥
IsNoObject bytes NoMemory = ⊤

-- what is answered to these bytes, of which the value tells this or is at fault: that, or that they are no object's text,
-- or want of memory
abbrev pub IsJsonAnswer : {X : Type 0} → (Data → Result X JsonFault) → List ℕ → Result X JsonFault → Type 0
IsJsonAnswer told bytes (Ok x) = (d : Data) × IsText bytes d × (told d ≡ Ok x)
IsJsonAnswer told bytes (Err Json) = (d : Data) → IsText bytes d → told d ≡ Err Json
IsJsonAnswer told bytes (Err (Member name)) = (d : Data) × IsText bytes d × (told d ≡ Err (Member name))
IsJsonAnswer told bytes (Err NoMemory) = ⊤
