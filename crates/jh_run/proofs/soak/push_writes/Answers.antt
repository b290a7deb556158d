-- One write more.
use Rattle.std.proofs.Common.{◌+◌, ◌*◌, ◌++◌, sym, ap, ◌∙◌}
use Rattle.std.proofs.lemmas.List.{append-nil}
use Rattle.jh_script.specs.declared.op.Op.TheVariants.{Write}
use Rattle.jh_run.specs.Soak.{number_writes}
use Rattle.jh_run.proofs.SoakLemmas.{behind_more, writes_none, writes_more}
use Rattle.jh_run.proofs.soak.push_writes.Goals as goal

pub loop-i-init : goal.loop-i-init
loop-i-init c = sym (ap (λ w. c.args.ops.now ++ w) (writes_none c.args.base c.args.first) ∙ append-nil c.args.ops.now)

pub loop-i-preserved : goal.loop-i-preserved
loop-i-preserved c =
    behind_more c.args.ops.now (number_writes c.args.base c.args.first c.loop-i.i) (number_writes c.args.base c.args.first (c.loop-i.i + 1)) c.loop-i.ops c.push.new.self
    (Write 8 (c.args.base + 8 * (c.args.first + c.loop-i.i)) (c.args.first + c.loop-i.i)) c.loop-i.invariant c.in_ok-push.ensures.ok (writes_more c.args.base c.args.first c.loop-i.i)
