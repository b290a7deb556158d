-- The first seat gives the callers' hands away, one after another.
use Rattle.std.proofs.Common.{◌≡◌, ◌≢◌, ℕ, suc, ◌<◌, false, List, [], ◌∷◌, length, get_or, slice_index, drop, map, Contains, AllPairs, Some, refl, ap, sym, ◌∙◌, arith}
use Rattle.jh_num.proofs.Public.{Contains_from_map}
use Rattle.atomic_table.specs.Table.{Splits}
use Rattle.jh_turn.specs.declared.rule.Hand.{Hand}
use Rattle.jh_turn.specs.declared.rule.View.{View}
use Rattle.jh_turn.specs.declared.rule.Opening.{Opening}
use Rattle.jh_turn.specs.Private.Rule.{hand, view, without_first, only_first, HasOneHistory}
use Rattle.jh_turn.proofs.Seating.{split_keeps}

module _ {E : Type 0} (seen : List E) where
  abbrev pub hands_of : List ℕ → List (Hand E)
  hands_of callers = map (λ who. hand who seen) callers

  pub first_hand : (left : List ℕ) → 0 < length left → hands_of left ≡ hand (slice_index left 0) seen ∷ hands_of (drop 1 left)
  first_hand [] l = absurd (omega arith)
  first_hand (x ∷ xs) l = refl

  -- no other hand is the first caller's
  pub first_apart : (left : List ℕ) → 0 < length left → AllPairs (λ a b. a ≢ b) left → (g : Hand E) → Contains (hands_of (drop 1 left)) g → g.caller ≢ slice_index left 0
  first_apart [] l differ g c same = absurd (omega arith)
  first_apart (x ∷ xs) l differ g c same = let m = Contains_from_map (λ who. hand who seen) xs g c in let at = m.1 in let inside = at.1 in
      let other : x ≡ get_or xs at.0 m.0 → ⊥ = differ 0 (suc at.0) m.0 (omega arith) (omega arith) in
      other (sym same ∙ (sym (ap (λ (h : Hand E). h.caller) m.2) ∙ sym at.2))

module _ {T E O : Type 0} (whose : E → ℕ) (origin : T → O) (serves : O → ℕ → Type 0) (history : T → List E) (key : Opening T) where
  pub splits_first : (id : ℕ) (v : View T E) (left : List ℕ) (seen : List E) (opened : T) → 0 < length left → AllPairs (λ a b. a ≢ b) left → v ≡ view (Some opened) (hands_of seen left) false
      → Splits (HasOneHistory whose origin serves history key) id v (without_first v) (only_first v)
  splits_first id v left seen opened some differ is = split_keeps whose origin serves history key id v (hand (slice_index left 0) seen) (hands_of seen (drop 1 left))
      (ap (λ (w : View T E). w.hands) is ∙ first_hand seen left some) (first_apart seen left some differ) (ap (λ (w : View T E). w.holding) is)
