-- Callers below the index have their ports, and the seat has the hands of the rest.
use Rattle.std.proofs.Common.{◌≡◌, All, length, take, drop, map, vec_len, vec_capacity}
use Rattle.jh_turn.specs.Private.Dealing.{HasToGive, IsNewPort}
use Rattle.jh_turn.specs.Ports.{opened_value, port_caller}
use Rattle.jh_turn.proofs.shared.Shared.deal.Given as goal

abbrev pub invariant-loop-i : goal.invariant-loop-i
invariant-loop-i g l = record {
  seat : HasToGive (g.T.Turner.history (opened_value l.self)) (drop l.i l.callers) l.self l.seat;
  ports : All (IsNewPort (g.T.Turner.history (opened_value l.self)) l.self) l.ports.items;
  callers : map port_caller l.ports.items ≡ take l.i l.callers;
  count : vec_len l.ports ≡ l.i;
  room : vec_capacity l.ports ≡ length l.callers;
}
