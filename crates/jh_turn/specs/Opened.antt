-- A value as it was opened.
use Rattle.std.specs.Prelude.{◌≡◌, ℕ, List}
use Rattle.jh_turn.specs.declared.shared.Shared.{Shared}
use Rattle.jh_turn.specs.Ports.{opened_value, all_callers}

module _ {T E A : Type 0} where
  -- the object was opened with this value, for these callers
  abbrev pub IsOpenedAs : T → List ℕ → Shared T E A → Type 0
  IsOpenedAs value callers shared = (opened_value shared ≡ value) × (all_callers shared ≡ callers)
