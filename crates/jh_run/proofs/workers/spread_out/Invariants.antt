-- The calling thread's own list has room for the ports that are left, and it or these aren't empty.
use Rattle.std.proofs.Common.{◌+◌, ◌<◌, ◌≤◌, length, vec_capacity}
use Rattle.jh_run.proofs.workers.spread_out.Given as goal

abbrev pub invariant-loop-port : goal.invariant-loop-port
invariant-loop-port g l = record {
  room : length l.own.items + length l.port-iterator.rest.items ≤ vec_capacity l.own;
  some : 0 < length l.own.items + length l.port-iterator.rest.items;
}
