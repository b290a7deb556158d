-- The first seat and new ports, while a value is opened.
use Rattle.std.specs.Prelude.{◌≡◌, ℕ, false, List, Some, map}
use Rattle.atomic_table.specs.declared.shared.Seat.{Seat}
use Rattle.jh_turn.specs.declared.turner.Turner.{Ghosts}
use Rattle.jh_turn.specs.declared.shared.Shared.{Shared}
use Rattle.jh_turn.specs.declared.shared.Port.{Port}
use Rattle.jh_turn.specs.declared.rule.View.{View}
use Rattle.jh_turn.specs.Ports.{opened_value, seen_by, IsPortOf}
use Rattle.jh_turn.specs.Private.Rule.{Slot, hand, view}

module _ {T E A : Type 0} where
  -- the seat is of the object, knows the opened value, and has the hands of these callers, which have seen this history,
  -- and not the turn
  abbrev pub HasToGive : List E → List ℕ → Shared T E A → Seat (Slot T) (View T E) → Type 0
  HasToGive seen callers shared seat = (seat.table_id ≡ shared.table.shared.table_id) × (seat.me.0 ≡ view (Some (opened_value shared)) (map (λ who. hand who seen) callers) false)

module _ {T E A : Type 0} {G : Ghosts T E A} where
  -- a port of the object, which has seen this history
  abbrev pub IsNewPort : List E → Shared T E A → Port T E A G → Type 0
  IsNewPort seen shared port = IsPortOf shared port × (seen_by port ≡ seen)
