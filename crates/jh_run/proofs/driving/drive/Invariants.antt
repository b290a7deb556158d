-- The ports are those that came, and each took turns.
use Rattle.jh_turn.specs.Ports.{opened_value}
use Rattle.jh_turn.specs.PortSets.{IsSameSet}
use Rattle.jh_run.specs.Drives.{AllTookTurns}
use Rattle.jh_run.specs.Running.{origin_of}
use Rattle.jh_run.proofs.driving.drive.Given as goal

abbrev pub invariant-loop : goal.invariant-loop
invariant-loop g l = record {
  same : IsSameSet l.shared l.initial.ports l.ports;
  turns : AllTookTurns (origin_of (opened_value l.shared)) l.initial.ports l.ports;
}
