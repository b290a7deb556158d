-- A link goes, or the first table where it has none.
use Rattle.std.proofs.Common.{refl, None}
use Rattle.jh_walk.specs.Counts.{unmoved}
use Rattle.jh_walk.specs.Walks.{levels}
use Rattle.jh_edit.specs.Tables.{words}
use Rattle.jh_edit.proofs.StepLemmas.{ended, given_back, itself_reached, reached_next, reached_own, taken_away}
use Rattle.jh_edit.proofs.mending.take_away.Goals as goal

pub prune-requires-clause-own : goal.prune-requires-clause-own
prune-requires-clause-own c =
    let is = c.in-Some.ensures.link in
    reached_own c.args.f.now c.args.table c.requires.tables unmoved None _ None c.in-Some.link.parent (is.reached unmoved (λ n slot. refl))

pub prune-requires-clause-taken : goal.prune-requires-clause-taken
prune-requires-clause-taken c =
    let is = c.in-Some.ensures.link in
    let link = c.in-Some.link in
    c.requires.taken link.page (reached_next unmoved (words c.args.f.now) levels None c.args.table link.below None link.parent link.slot link.page (is.reached unmoved (λ n slot. refl)) is.is.names is.is.some)

pub give-requires : goal.give-requires
give-requires c = c.requires.taken c.args.table (itself_reached (words c.args.f.now) c.args.table)

pub returns-in-Some : goal.returns-in-Some
returns-in-Some c = λ want.
    taken_away c.args.tag want c.args.table c.in-Some.link c.args.f.now c.prune.new.f c.args.p.now c.prune.new.p c.args.c.now c.prune.new.c c.in-Some.ensures.link c.prune.ensures.cleared c.prune.ensures.memory c.prune.ensures.pool c.prune.ensures.cache

pub returns-in-None : goal.returns-in-None
returns-in-None c = λ want.
    ended c.args.tag want c.args.table c.args.f.now c.args.p.now c.give.new.self c.args.c.now c.flush.new.self (c.in-None.ensures.none refl)
    (given_back c.args.table c.args.p.now c.give.new.self c.give.ensures.base c.give.ensures.size c.give.ensures.given c.give.ensures.others c.give.ensures.used) c.flush.ensures
