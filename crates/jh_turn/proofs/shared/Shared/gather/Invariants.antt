-- The ports left are the object's, and the waiting seat has the hands of all the others.
use Rattle.std.proofs.Common.{◌≡◌, ◌++◌, false, All, vec_len}
use Rattle.jh_turn.specs.Private.Closing.{HasHands}
use Rattle.jh_turn.specs.Ports.{IsPortOf}
use Rattle.jh_turn.proofs.shared.Shared.gather.Given as goal

abbrev pub invariant-loop-port : goal.invariant-loop-port
invariant-loop-port g l = record {
  left : All (IsPortOf l.self) l.ports.items;
  own : l.all.table_id ≡ l.self.table.shared.table_id;
  waits : l.all.me.0.holding ≡ false;
  joined : (done : _) × (l.fn.ports.items ≡ l.ports.items ++ done) × HasHands l.all.me.0.hands done;
}

abbrev pub decreases-loop-port : goal.decreases-loop-port
decreases-loop-port g l = vec_len l.ports
