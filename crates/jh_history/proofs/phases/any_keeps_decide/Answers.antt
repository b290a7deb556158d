-- One CPU more.
use Rattle.std.proofs.Common.{◌+◌, ◌∙◌, sym, refl, arith}
use Rattle.jh_num.proofs.Public.{below_at, below_none, below_more}
use Rattle.jh_history.specs.Phases.{keeps_decide}
use Rattle.jh_history.proofs.phases.any_keeps_decide.Goals as goal

pub returns-then-keeps_decide : goal.returns-then-keeps_decide
returns-then-keeps_decide g c = λ i f h. sym (below_at (λ k. keeps_decide i c.args.caller k (f.cpu k)) 16 c.loop-cpu.cpu c.loop-cpu-test.true (sym (c.keeps_decide.ensures i f h) ∙ c.if-keeps_decide.true))

pub loop-cpu-init : goal.loop-cpu-init
loop-cpu-init g c = λ i f h. below_none (λ k. keeps_decide i c.args.caller k (f.cpu k)) 0 refl

pub loop-cpu-preserved : goal.loop-cpu-preserved
loop-cpu-preserved g c = λ i f h.
    below_more (λ k. keeps_decide i c.args.caller k (f.cpu k)) c.loop-cpu.cpu (c.loop-cpu.cpu + 1) (omega arith) (c.loop-cpu.invariant i f h) (sym (c.keeps_decide.ensures i f h) ∙ c.if-keeps_decide.false)
