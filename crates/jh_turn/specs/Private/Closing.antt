-- What is known of the value once all seats are joined.
use Rattle.std.specs.Prelude.{◌≡◌, ℕ, List, All, Contains}
use mathlib.Core.List.{IsPrefix}
use Rattle.jh_turn.specs.declared.turner.Turner.{Ghosts}
use Rattle.jh_turn.specs.declared.shared.Port.{Port}
use Rattle.jh_turn.specs.declared.rule.Hand.{Hand}
use Rattle.jh_turn.specs.Private.Rule.{hand}
use Rattle.jh_turn.specs.Histories.{entries_of}
use Rattle.jh_turn.specs.Ports.{port_caller, seen_by}

module _ {E : Type 0} where
  -- one of the hands is the caller's
  abbrev pub HasCaller : List (Hand E) → ℕ → Type 0
  HasCaller hands who = (h : Hand E) × Contains hands h × (h.caller ≡ who)

-- the hands of these ports are among those
abbrev pub HasHands : {T E A : Type 0} {G : Ghosts T E A} → List (Hand E) → List (Port T E A G) → Type 0
HasHands hands ports = All (λ p. Contains hands (hand (port_caller p) (seen_by p))) ports

module _ {T E O : Type 0} (whose : E → ℕ) (origin : T → O) (history : T → List E) where
  -- the last value, by what the hands have seen
  pub record IsLast (opened : T) (callers : List ℕ) (hands : List (Hand E)) (value : T) : Type 0 where
    pub same_origin : origin value ≡ origin opened
    pub begins : IsPrefix (history opened) (history value)
    pub seen : (h : Hand E) → Contains hands h → IsPrefix h.seen (history value)
    pub own : (h : Hand E) → Contains hands h → entries_of whose h.caller (history value) ≡ entries_of whose h.caller h.seen
    pub no_others : (who : ℕ) → ¬ (Contains callers who) → entries_of whose who (history value) ≡ entries_of whose who (history opened)
