-- Each round leaves the set, and its turns come behind those before.
use Rattle.std.proofs.Common.{refl, ◌∙◌}
use Rattle.jh_turn.specs.Ports.{opened_value}
use Rattle.jh_run.specs.Running.{origin_of}
use Rattle.jh_run.proofs.DriveLemmas.{all_took_none, all_took_both}
use Rattle.jh_run.proofs.driving.drive.Goals as goal

pub loop-init : goal.loop-init
loop-init g c = record {
  same = record { own = c.requires.own; callers = refl };
  turns = all_took_none (origin_of (opened_value c.args.shared.now)) c.args.ports.now;
}

pub loop-preserved : goal.loop-preserved
loop-preserved g c =
    let round = c.drive_round.ensures in
    record {
      same = record { own = round.same.own; callers = round.same.callers ∙ c.loop.invariant.same.callers };
      turns = all_took_both (origin_of (opened_value c.args.shared.now)) c.args.ports.now c.loop.ports c.drive_round.new.ports c.loop.invariant.turns round.turns;
    }

pub returns-in-Break-clause-turns : goal.returns-in-Break-clause-turns
returns-in-Break-clause-turns g c =
    all_took_both (origin_of (opened_value c.args.shared.now)) c.args.ports.now c.loop.ports c.drive_round.new.ports c.loop.invariant.turns c.drive_round.ensures.turns
