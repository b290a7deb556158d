-- One item more.
use Rattle.std.proofs.Common.{false, arith}
use Rattle.jh_run.proofs.RanLemmas.{Ran_nil, Ran_next, Ran_stop}
use Rattle.jh_run.proofs.schedule.follow_on.Goals as goal

pub loop-cpu-init : goal.loop-cpu-init
loop-cpu-init c = Ran_nil c.args.board.now

pub returns-then-branch : goal.returns-then-branch
returns-then-branch c =
    let done = rw c.if-branch.true at c.in_ok-item.ensures.ok in
    record { ok = Ran_stop c.args.board.now c.loop-cpu.board c.item.new.board c.args.cpus.now c.loop-cpu.cpu-index 0 (omega arith) c.loop-cpu.invariant done }

pub loop-cpu-preserved : goal.loop-cpu-preserved
loop-cpu-preserved c =
    let done = rw c.if-branch.false at c.in_ok-item.ensures.ok in
    Ran_next c.args.board.now c.loop-cpu.board c.item.new.board c.args.cpus.now c.loop-cpu.cpu-index 0 false (omega arith) c.loop-cpu.invariant done
