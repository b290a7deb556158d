-- The ports of the callers so far stand behind the first ones.
use Rattle.std.proofs.Common.{◌≡◌, ◌+◌, ◌++◌, All, length, map, take, vec_capacity}
use mathlib.Core.List.{IsPrefix}
use Rattle.jh_turn.specs.Ports.{IsPortOf, port_caller}
use Rattle.jh_run.proofs.workers.gather.Given as goal

abbrev pub invariant-loop-caller : goal.invariant-loop-caller
invariant-loop-caller g l = record {
  own : All (IsPortOf l.shared) l.ports.items;
  kept : IsPrefix l.initial.ports.items l.ports.items;
  callers : map port_caller l.ports.items ≡ map port_caller l.initial.ports.items ++ take l.caller-index l.callers;
  count : length l.ports.items ≡ length l.initial.ports.items + l.caller-index;
  room : vec_capacity l.ports ≡ vec_capacity l.initial.ports;
}
