-- What clauses see of a shared value and of its ports.
use Rattle.std.specs.Prelude.{◌≡◌, ℕ, List, Contains, All, map, Some}
use Rattle.jh_turn.specs.declared.turner.Turner.{Ghosts}
use Rattle.jh_turn.specs.declared.shared.Shared.{Shared}
use Rattle.jh_turn.specs.declared.shared.Port.{Port}
use Rattle.jh_turn.specs.Hands.{seen_of}
use Rattle.jh_turn.specs.Histories.{PortTurn}

module _ {T E A : Type 0} where
  -- the value that was opened
  abbrev pub opened_value : Shared T E A → T
  opened_value shared = shared.table.shared.key.value.value

  -- the callers that ports were made for
  abbrev pub all_callers : Shared T E A → List ℕ
  all_callers shared = shared.table.shared.key.callers.items

module _ {T E A : Type 0} {G : Ghosts T E A} where
  -- the caller of the port
  abbrev pub port_caller : Port T E A G → ℕ
  port_caller port = port.caller

  -- the history that the port has seen
  abbrev pub seen_by : Port T E A G → List E
  seen_by port = seen_of port.seat.me.0.hands

  -- the turn that had this answer, by the port before it and after it
  abbrev pub turn_at : Port T E A G → A → Port T E A G → PortTurn E A
  turn_at before answer after = record { caller = port_caller before; seen = seen_by before; answer = answer; now = seen_by after }

  -- the port is of this object
  abbrev pub IsPortOf : Shared T E A → Port T E A G → Type 0
  IsPortOf shared port = (port.seat.table_id ≡ shared.table.shared.table_id) × (port.seat.me.0.opened ≡ Some (opened_value shared))

  -- these are all ports of the object
  abbrev pub AreAllPorts : Shared T E A → List (Port T E A G) → Type 0
  AreAllPorts shared ports = All (IsPortOf shared) ports × All (Contains (map port_caller ports)) (all_callers shared)
