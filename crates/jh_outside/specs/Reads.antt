-- What a read of a name may hand out, and what it leaves.
use Rattle.std.specs.Prelude.{◌≡◌, ℕ, List, take, ⊤, Option, None, Some, Result, Ok, Err}
use Rattle.jh_outside.specs.declared.files.FileFault.{FileFault}
use Rattle.jh_outside.specs.declared.files.FileFault.TheVariants.{Fault, NoMemory}
use Rattle.jh_outside.specs.Ask.{ask_of, kept_name}

-- what files tell of a name: nothing, that it is missing, or all the bytes that it holds
abbrev pub KnownFile : Type 0
KnownFile = Option (Option (List ℕ))

-- these bytes may be handed out: the first `most` that the name holds; for a name that is missing no list, not even the
-- empty one; and any where nothing is told
abbrev pub HandsOut : KnownFile → ℕ → List ℕ → Type 0
HandsOut None most bytes = ⊤
HandsOut (Some None) most bytes = ⊥
HandsOut (Some (Some held)) most bytes = bytes ≡ take most held

module _ {X : Type 0} where
  -- P holds where the answer is `Fault`
  abbrev pub OnFault : Result X FileFault → Type 0 → Type 0
  OnFault (Ok _) P = ⊤
  OnFault (Err Fault) P = P
  OnFault (Err NoMemory) P = ⊤

  -- the name of the last read that answered `Fault`, after one more read
  abbrev pub failed_after : List ℕ → List ℕ → Result X FileFault → List ℕ
  failed_after failed name result = kept_name failed (ask_of name result).name (ask_of name result).answer
