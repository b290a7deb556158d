-- A Commit, and other acts.
use Rattle.jh_history.proofs.PlainStepLemmas.{commit_other}
use Rattle.jh_history.proofs.plain.cells_after.Goals as goal

pub returns-in_default : goal.returns-in_default
returns-in_default c = record {
  ok = λ begun is made. commit_other begun c.args.act.now c.args.cells.now c.in_default.not-Commit;
  err = tt;
}
