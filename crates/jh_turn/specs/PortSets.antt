-- Several ports of one object, before and after turns.
use Rattle.std.specs.Prelude.{◌≡◌, List, All, map}
use Rattle.jh_turn.specs.declared.turner.Turner.{Ghosts}
use Rattle.jh_turn.specs.declared.shared.Shared.{Shared}
use Rattle.jh_turn.specs.declared.shared.Port.{Port}
use Rattle.jh_turn.specs.Ports.{port_caller, IsPortOf}

module _ {T E A : Type 0} {G : Ghosts T E A} where
  -- the ports after are ports of the object still, and their callers stand in the same order as before
  pub record IsSameSet (shared : Shared T E A) (before after : List (Port T E A G)) : Type 0 where
    pub own : All (IsPortOf shared) after
    pub callers : map port_caller after ≡ map port_caller before
