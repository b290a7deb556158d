-- By what is due where root is alone.
use Rattle.jh_history.proofs.AloneLemmas.{legal_alone, legal_roots, due_at_roots, alone_after}
use Rattle.jh_history.proofs.laws.root_lives_alone.Goals as goal

pub returns : goal.returns
returns c = record {
  alone = λ j. legal_alone j.image j.form j.entries j.silent j.legal;
  entries = λ m. legal_roots m.image m.form m.before m.rest m.entry m.silent m.legal;
  due = λ e. due_at_roots e.image e.facts e.cpu e.entry e.silent e.alone e.due;
  stays = alone_after;
}
