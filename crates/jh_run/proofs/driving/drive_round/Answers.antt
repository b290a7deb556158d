-- A turn at one of the ports leaves the set, and what that port has seen may tell why no turn follows.
use Rattle.std.proofs.Common.{Break, refl, arith}
use Rattle.jh_turn.specs.Ports.{opened_value}
use Rattle.jh_run.specs.Running.{origin_of}
use Rattle.jh_turn.proofs.Public.{same_set_at}
use Rattle.jh_run.proofs.DriveLemmas.{all_took_none, all_took_more}
use Rattle.jh_run.proofs.PortLemmas.{some_shows_at}
use Rattle.jh_run.proofs.driving.drive_round.Goals as goal

pub loop-i-init : goal.loop-i-init
loop-i-init g c = record {
  same = record { own = c.requires; callers = refl };
  turns = all_took_none (origin_of (opened_value c.args.shared.now)) c.args.ports.now;
}

pub loop-i-preserved : goal.loop-i-preserved
loop-i-preserved g c =
    let turn = c.drive_port.ensures in
    record {
      same = same_set_at c.args.shared.now c.args.ports.now c.loop-i.ports c.loop-i.i c.index-ports-i.result c.drive_port.new.port c.loop-i.invariant.same turn.port turn.turns.caller;
      turns = all_took_more (origin_of (opened_value c.args.shared.now)) c.args.ports.now c.loop-i.ports c.loop-i.i c.index-ports-i.result c.drive_port.new.port c.loop-i.invariant.turns turn.turns;
    }

pub returns-in_err-drive_port-clause-same : goal.returns-in_err-drive_port-clause-same
returns-in_err-drive_port-clause-same g c =
    let turn = c.drive_port.ensures in
    same_set_at c.args.shared.now c.args.ports.now c.loop-i.ports c.loop-i.i c.index-ports-i.result c.drive_port.new.port c.loop-i.invariant.same turn.port turn.turns.caller

pub returns-in_err-drive_port-clause-turns : goal.returns-in_err-drive_port-clause-turns
returns-in_err-drive_port-clause-turns g c =
    all_took_more (origin_of (opened_value c.args.shared.now)) c.args.ports.now c.loop-i.ports c.loop-i.i c.index-ports-i.result c.drive_port.new.port c.loop-i.invariant.turns c.drive_port.ensures.turns

pub returns-in_err-drive_port-clause-shows : goal.returns-in_err-drive_port-clause-shows
returns-in_err-drive_port-clause-shows g c =
    rw c.from_residual.ensures
    (some_shows_at (origin_of (opened_value c.args.shared.now)) (Break c.in_err-drive_port.field-0.0) c.loop-i.ports c.loop-i.i c.drive_port.new.port (omega arith) c.in_err-drive_port.ensures.shows)
