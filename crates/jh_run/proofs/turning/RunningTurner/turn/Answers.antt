-- A turn leaves the entries, or adds one of the CPU.
use Rattle.jh_run.proofs.TurnLemmas.{takes_so, Takes_grows}
use Rattle.jh_run.proofs.turning.RunningTurner.turn.Goals as goal

pub returns-clause-history : goal.returns-clause-history
returns-clause-history c =
    let takes = takes_so c.args.self.now.board c.args.who c.turn-answer.result c.turn-answer.new.self c.turn-answer.ensures.ok c.turn-answer.ensures.err in
    Takes_grows c.args.self.now.board c.args.who c.turn-answer.result c.turn-answer.new.self takes
