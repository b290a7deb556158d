-- The first that is left is the lowest; where none of a board's CPUs is left, none at all is.
use Rattle.std.proofs.Common.{◌≤◌, ◌∙◌, sym, arith}
use Rattle.jh_talk.specs.Cpus.{is_left}
use Rattle.jh_talk.proofs.CpuLemmas.{none_more, none_at_all, few_left}
use Rattle.jh_talk.proofs.cpus.leader_of.Goals as goal

pub returns-then-is_left : goal.returns-then-is_left
returns-then-is_left c = record { passes = sym c.is_left.ensures ∙ c.if-is_left.true; lowest = c.loop-cpu.invariant }

pub loop-cpu-preserved : goal.loop-cpu-preserved
loop-cpu-preserved c =
    none_more (is_left c.args.root.now c.args.cell.now) c.loop-cpu.cpu c.loop-cpu.invariant (sym c.is_left.ensures ∙ c.if-is_left.false)

pub returns : goal.returns
returns c =
    let all : 16 ≤ c.loop-cpu.cpu = omega arith in
    none_at_all (is_left c.args.root.now c.args.cell.now) 16 c.loop-cpu.cpu (few_left c.args.root.now c.args.cell.now c.requires) all c.loop-cpu.invariant
