-- What begins behind the ends of those before and ends before the others start isn't met.
use Rattle.std.proofs.Common.{arith}
use Rattle.jh_check.proofs.EnvelopeLemmas.{lies_unmet}
use Rattle.jh_check.proofs.gaps.gap_behind.Goals as goal

pub returns : goal.returns
returns c = λ span lies.
    let n = c.min-before.result in
    let m = c.min-before.ensures in
    let low = lies.starts in
    let high = lies.ends in
    lies_unmet c.args.envelopes.now span n c.requires (λ h d. let e = c.end_before-start.ensures h d in omega arith) (λ h d. let e = c.start_behind-end.ensures h d in omega arith) (omega (arith, m))
