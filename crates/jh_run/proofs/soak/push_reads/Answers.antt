-- One read more.
use Rattle.std.proofs.Common.{◌+◌, ◌*◌, ◌++◌, sym, ap, ◌∙◌}
use Rattle.std.proofs.lemmas.List.{append-nil}
use Rattle.jh_script.specs.declared.op.Op.TheVariants.{Read}
use Rattle.jh_run.specs.Soak.{number_reads}
use Rattle.jh_run.proofs.SoakLemmas.{behind_more, reads_none, reads_more}
use Rattle.jh_run.proofs.soak.push_reads.Goals as goal

pub loop-i-init : goal.loop-i-init
loop-i-init c = sym (ap (λ w. c.args.ops.now ++ w) (reads_none c.args.base) ∙ append-nil c.args.ops.now)

pub loop-i-preserved : goal.loop-i-preserved
loop-i-preserved c =
    behind_more c.args.ops.now (number_reads c.args.base c.loop-i.i) (number_reads c.args.base (c.loop-i.i + 1)) c.loop-i.ops c.push.new.self (Read 8 (c.args.base + 8 * c.loop-i.i))
    c.loop-i.invariant c.in_ok-push.ensures.ok (reads_more c.args.base c.loop-i.i)
