-- What a seat knows of the caller of its first hand.
use Rattle.std.specs.Prelude.{ℕ, List, [], ◌∷◌}
use Rattle.jh_turn.specs.declared.rule.Hand.{Hand}

module _ {E : Type 0} where
  -- the number of the caller of the first hand, 0 where there is none
  abbrev pub caller_of : List (Hand E) → ℕ
  caller_of [] = 0
  caller_of (h ∷ hs) = h.caller

  -- the history that the caller of the first hand has seen, empty where there is none
  abbrev pub seen_of : List (Hand E) → List E
  seen_of [] = []
  seen_of (h ∷ hs) = h.seen
