-- Two cells of which the rule doesn't speak give nothing.
use Rattle.std.proofs.Common.{◌≡◌, false}
use Rattle.jh_check.specs.Private.Spans.{joins}
use Rattle.jh_check.specs.Findings.{between}
use Rattle.jh_check.proofs.BreakLemmas.{between_apart}
use Rattle.jh_check.proofs.EnvelopeLemmas.{capped_none_more}
use Rattle.jh_check.proofs.pairing.join.Goals as goal

pub returns-else-joins : goal.returns-else-joins
returns-else-joins c =
    let rule = c.args.pair.now.rule in
    let one = c.args.pair.now.one.now in
    let other = c.args.pair.now.other.now in
    let t = c.joins.ensures in
    let i = c.if-joins.false in
    let h : joins rule c.args.pair.now.a c.args.pair.now.b ≡ false = cc in
    capped_none_more c.args.found.now (between rule c.args.pair.now.a one c.args.pair.now.b other) (between_apart rule c.args.pair.now.a one c.args.pair.now.b other h)
