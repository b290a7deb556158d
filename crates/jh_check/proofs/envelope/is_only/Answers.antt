-- As starts and ends never fall, those before end too early and those behind begin too late.
use Rattle.std.proofs.Common.{arith}
use Rattle.std.proofs.lemmas.Bool.{leb-true}
use Rattle.jh_check.proofs.EnvelopeLemmas.{meets_no_other}
use Rattle.jh_check.proofs.envelope.is_only.Goals as goal

pub returns-then-end_before-from-clause-only : goal.returns-then-end_before-from-clause-only
returns-then-end_before-from-clause-only c = λ t met d.
    let f = c.from.ensures in
    let low = c.if-end_before-from.true in
    let high = leb-true c.args.span.end c.start_behind.result t in
    meets_no_other c.args.envelopes.now c.args.span c.args.k met d c.requires (omega arith) (λ h r. let m = c.end_before.ensures h r in omega arith) (λ h r. let m = c.start_behind.ensures h r in omega arith)
