-- What the port has seen is the history just behind the turn.
use Rattle.jh_turn.specs.Ports.{opened_value, port_caller, seen_by}
use Rattle.jh_run.specs.Running.{origin_of}
use Rattle.jh_run.proofs.DriveLemmas.{took_one}
use Rattle.jh_run.proofs.TurnLemmas.{turn_tells}
use Rattle.jh_run.proofs.driving.drive_port.Goals as goal

pub returns-clause-shows : goal.returns-clause-shows
returns-clause-shows g c =
    let turn = c.turn-answer.ensures.turn in
    rw c.end_after.ensures (turn_tells (origin_of (opened_value c.args.shared.now)) (port_caller c.args.port.now) _ (seen_by c.turn-answer.new.port) c.turn-answer.result turn.answered)

pub returns-clause-turns : goal.returns-clause-turns
returns-clause-turns g c =
    let turn = c.turn-answer.ensures in
    took_one (origin_of (opened_value c.args.shared.now)) c.args.port.now c.turn-answer.new.port c.turn-answer.result turn.port.1 turn.turn
