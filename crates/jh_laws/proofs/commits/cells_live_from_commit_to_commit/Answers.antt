-- By what the Commit of the call that was begun does.
use Rattle.std.proofs.Common.{ap}
use Rattle.jh_call.specs.declared.call.Call.TheVariants.{Create, Start, Loadable, Destroy}
use Rattle.jh_history.specs.Facts.{Facts}
use Rattle.jh_history.proofs.Public.{facts_nil}
use Rattle.jh_laws.proofs.CommitLemmas.{cells_kept, commit_of, commit_create, commit_destroy, commit_start, commit_loadable}
use Rattle.jh_laws.proofs.commits.cells_live_from_commit_to_commit.Goals as goal

pub returns-clause-opening : goal.returns-clause-opening
returns-clause-opening c = λ image form. ap (λ (f : Facts). f.cells) (facts_nil image form)

pub returns-clause-create : goal.returns-clause-create
returns-clause-create c = λ m at is act. commit_create m.image m.form m.before m.entry at (commit_of m.image m.form m.before m.rest m.entry (Create at) m.admitted m.legal is act)

pub returns-clause-destroy : goal.returns-clause-destroy
returns-clause-destroy c = λ m id is act. commit_destroy m.image m.form m.before m.entry id (commit_of m.image m.form m.before m.rest m.entry (Destroy id) m.admitted m.legal is act)

pub returns-clause-start : goal.returns-clause-start
returns-clause-start c = λ m id is act. commit_start m.image m.form m.before m.entry id (commit_of m.image m.form m.before m.rest m.entry (Start id) m.admitted m.legal is act)

pub returns-clause-loadable : goal.returns-clause-loadable
returns-clause-loadable c = λ m id is act. commit_loadable m.image m.form m.before m.entry id (commit_of m.image m.form m.before m.rest m.entry (Loadable id) m.admitted m.legal is act)

pub returns-clause-others : goal.returns-clause-others
returns-clause-others c = λ m other. cells_kept m.image m.form m.before m.entry other
