-- The callers of the ports so far.
use Rattle.std.proofs.Common.{◌≡◌, map, take}
use Rattle.jh_turn.specs.Ports.{port_caller}
use Rattle.jh_run.proofs.workers.callers_of_ports.Given as goal

abbrev pub invariant-loop-port : goal.invariant-loop-port
invariant-loop-port l = l.callers.items ≡ map port_caller (take l.port-index l.ports)
