-- One round more.
use Rattle.std.proofs.Common.{◌+◌, false, arith, refl}
use Rattle.jh_run.proofs.RanLemmas.{Ran_nil, Ran_round, Ran_rounds_quiet, Ran_rounds_full}
use Rattle.jh_run.proofs.schedule.finish.Goals as goal

pub loop-n-init : goal.loop-n-init
loop-n-init c = Ran_nil c.args.board.now

pub returns-then-is_quiet : goal.returns-then-is_quiet
returns-then-is_quiet c = record { ok = Ran_rounds_quiet c.args.board.now c.loop-n.board c.loop-n.n (c.args.limit + 1) c.args.cpus.now (omega arith) c.loop-n.invariant (c.if-is_quiet.ensures.0 refl) }

pub returns-then-branch : goal.returns-then-branch
returns-then-branch c =
    let done = rw c.if-branch.true at c.in_ok-follow_on.ensures.ok in
    record { ok = Ran_rounds_full c.args.board.now c.loop-n.board c.follow_on.new.board c.loop-n.n (c.args.limit + 1) c.args.cpus.now (omega arith) c.loop-n.invariant done }

pub loop-n-preserved : goal.loop-n-preserved
loop-n-preserved c =
    let done = rw c.if-branch.false at c.in_ok-follow_on.ensures.ok in
    Ran_round c.args.board.now c.loop-n.board c.follow_on.new.board c.loop-n.n c.args.cpus.now false c.loop-n.invariant done
