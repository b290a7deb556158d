-- By the facts at opening.
use Rattle.std.proofs.Common.{ap}
use Rattle.jh_history.specs.Facts.{Facts}
use Rattle.jh_history.proofs.Public.{facts_nil}
use Rattle.jh_laws.proofs.opening.cpus_open_at_their_beginning.Goals as goal

pub returns-clause-owner : goal.returns-clause-owner
returns-clause-owner c = λ image form cpu. ap (λ (f : Facts). (f.cpu cpu).owner) (facts_nil image form)

pub returns-clause-mode : goal.returns-clause-mode
returns-clause-mode c = λ image form cpu. ap (λ (f : Facts). (f.cpu cpu).mode) (facts_nil image form)

pub returns-clause-asked : goal.returns-clause-asked
returns-clause-asked c = λ image form cpu. ap (λ (f : Facts). (f.cpu cpu).asked) (facts_nil image form)

pub returns-clause-stopped : goal.returns-clause-stopped
returns-clause-stopped c = λ image form cpu. ap (λ (f : Facts). (f.cpu cpu).stopped) (facts_nil image form)

pub returns-clause-position : goal.returns-clause-position
returns-clause-position c = λ image form cpu. ap (λ (f : Facts). (f.cpu cpu).position) (facts_nil image form)
