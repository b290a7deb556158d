-- The schedule, and then the rounds.
use Rattle.std.proofs.Common.{◌+◌}
use Rattle.jh_history.specs.Items.{rounds}
use Rattle.jh_run.proofs.RanLemmas.{Ran_stopped, Ran_append}
use Rattle.jh_run.proofs.schedule.play_on.Goals as goal

pub returns-then-branch : goal.returns-then-branch
returns-then-branch c =
    let done = rw c.if-branch.true at c.in_ok-follow_on.ensures.ok in
    record { ok = Ran_stopped c.args.board.now c.follow_on.new.board c.args.schedule.now (rounds (c.args.limit + 1) c.args.cpus.now) done }

pub returns : goal.returns
returns c =
    let done = rw c.if-branch.false at c.in_ok-follow_on.ensures.ok in
    record { ok = Ran_append c.args.board.now c.follow_on.new.board c.finish.new.board c.args.schedule.now (rounds (c.args.limit + 1) c.args.cpus.now) c.in_ok-full.full done c.in_ok-full.ensures.ok }
