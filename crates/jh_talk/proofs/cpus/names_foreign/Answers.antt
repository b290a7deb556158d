-- The first foreign CPU tells; where none of a board's is foreign, none at all is.
use Rattle.std.proofs.Common.{◌≤◌, ◌∙◌, sym, refl, arith}
use Rattle.std.proofs.lemmas.Bool.{false≢true}
use Rattle.jh_talk.specs.Private.Seats.{is_foreign}
use Rattle.jh_talk.proofs.CpuLemmas.{none_more, none_at_all, few_foreign, foreign_from, none_foreign}
use Rattle.jh_talk.proofs.cpus.names_foreign.Goals as goal

pub returns-then-is_foreign : goal.returns-then-is_foreign
returns-then-is_foreign c =
    ((λ yes. foreign_from c.args.root.now c.args.cell.now c.loop-cpu.cpu (sym c.is_foreign.ensures ∙ c.if-is_foreign.true)), (λ foreign. refl))

pub loop-cpu-preserved : goal.loop-cpu-preserved
loop-cpu-preserved c =
    none_more (is_foreign c.args.root.now c.args.cell.now) c.loop-cpu.cpu c.loop-cpu.invariant (sym c.is_foreign.ensures ∙ c.if-is_foreign.false)

pub returns : goal.returns
returns c =
    let all : 16 ≤ c.loop-cpu.cpu = omega arith in
    let none = none_at_all (is_foreign c.args.root.now c.args.cell.now) 16 c.loop-cpu.cpu (few_foreign c.args.root.now c.args.cell.now c.requires) all c.loop-cpu.invariant in
    ((λ yes. absurd (false≢true yes)), (λ foreign. absurd (none_foreign c.args.root.now c.args.cell.now none foreign)))
