-- One round more.
use Rattle.std.proofs.Common.{◌++◌, ◌+◌, sym, ap, ◌∙◌}
use Rattle.jh_run.specs.Soak.{round_ops, rounds_ops}
use Rattle.jh_run.proofs.SoakLemmas.{rounds_none, rounds_more}
use Rattle.jh_run.proofs.soak.rounds_ops.Goals as goal

pub loop-r-init : goal.loop-r-init
loop-r-init c = c.new-ops.ensures ∙ sym rounds_none

pub loop-r-preserved : goal.loop-r-preserved
loop-r-preserved c =
    c.in_ok-push_round.ensures ∙ ap (λ w. w ++ round_ops (c.from.result + 1)) c.loop-r.invariant
    ∙ ap (λ n. rounds_ops c.loop-r.r ++ round_ops (n + 1)) c.from.ensures ∙ sym (rounds_more c.loop-r.r)
