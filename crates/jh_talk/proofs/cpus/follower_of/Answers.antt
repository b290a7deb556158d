-- The first that the cell names is the lowest; where it names none of a board's CPUs, it names none at all.
use Rattle.std.proofs.Common.{◌≤◌, ◌∙◌, sym, arith}
use Rattle.jh_cellcfg.specs.Cells.{is_cpu_set}
use Rattle.jh_talk.proofs.CpuLemmas.{none_more, none_at_all}
use Rattle.jh_talk.proofs.cpus.follower_of.Goals as goal

pub returns-then-has_cpu : goal.returns-then-has_cpu
returns-then-has_cpu c = record { passes = sym c.has_cpu.ensures ∙ c.if-has_cpu.true; lowest = c.loop-cpu.invariant }

pub loop-cpu-preserved : goal.loop-cpu-preserved
loop-cpu-preserved c =
    none_more (is_cpu_set c.args.cell.now.cpu_set) c.loop-cpu.cpu c.loop-cpu.invariant (sym c.has_cpu.ensures ∙ c.if-has_cpu.false)

pub returns : goal.returns
returns c =
    let all : 16 ≤ c.loop-cpu.cpu = omega arith in
    none_at_all (is_cpu_set c.args.cell.now.cpu_set) 16 c.loop-cpu.cpu c.requires all c.loop-cpu.invariant
