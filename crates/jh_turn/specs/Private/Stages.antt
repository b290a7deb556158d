-- A seat during a turn.
use Rattle.std.specs.Prelude.{◌≡◌, ℕ, true, false, List, [], ◌∷◌, Some, None}
use Rattle.atomic_table.specs.declared.shared.Seat.{Seat}
use Rattle.jh_turn.specs.declared.rule.View.{View}
use Rattle.jh_turn.specs.Hands.{seen_of}
use Rattle.jh_turn.specs.Histories.{Grows}
use Rattle.jh_turn.specs.Private.Rule.{Slot, Seated, hand, view}

module _ {T E : Type 0} where
  -- the seat is the same after as before: it has the same table and the same number
  abbrev pub IsSameSeat : Seat (Slot T) (View T E) → Seat (Slot T) (View T E) → Type 0
  IsSameSeat before after = (after.table_id ≡ before.table_id) × (after.id ≡ before.id)

  -- the seat is one caller's, waits for the turn, and has no slot
  pub record IsWaiting (who : ℕ) (me : Seated T E) : Type 0 where
    pub one_hand : me.0.hands ≡ hand who (seen_of me.0.hands) ∷ []
    pub waits : me.0.holding ≡ false
    pub empty : me.1 ≡ []

  -- the seat is one caller's, has the turn and the slot, and the value is out of the slot
  pub record IsAtWork (who : ℕ) (me : Seated T E) : Type 0 where
    pub one_hand : me.0.hands ≡ hand who (seen_of me.0.hands) ∷ []
    pub holds : me.0.holding ≡ true
    pub taken : me.1 ≡ (0, None) ∷ []

  -- the seat is one caller's, has given the turn up and its slot, and has seen this history
  abbrev pub HasDone : ℕ → List E → Seated T E → Seated T E → Type 0
  HasDone who log before after = after ≡ (view before.0.opened (hand who log ∷ []) false, [])

module _ {T E O : Type 0} (whose : E → ℕ) (origin : T → O) (history : T → List E) where
  -- the value has the opened value's origin, and one entry of the caller more than was seen, or none
  pub record MayReturn (who : ℕ) (v : View T E) (value : T) : Type 0 where
    pub grown : Grows whose who (seen_of v.hands) (history value)
    pub first : T
    pub from : v.opened ≡ Some first
    pub same_origin : origin value ≡ origin first
