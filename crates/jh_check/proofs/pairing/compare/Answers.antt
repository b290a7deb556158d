-- Where no envelope meets the cell's extents, no region gives anything.
use Rattle.jh_check.specs.Findings.{between}
use Rattle.jh_check.proofs.BlockLemmas.{between_beyond}
use Rattle.jh_check.proofs.EnvelopeLemmas.{capped_none_more}
use Rattle.jh_check.proofs.pairing.compare.Goals as goal

pub returns-then-not-may_be_met_within : goal.returns-then-not-may_be_met_within
returns-then-not-may_be_met_within c =
    let rule = c.args.pair.now.rule in
    let pair = c.args.pair.now in
    let far = c.if-not-may_be_met_within.true in
    capped_none_more c.args.found.now (between rule pair.a pair.one.now pair.b pair.other.now)
    (between_beyond rule pair.a pair.one.now pair.b pair.other.now pair.envelopes.now c.args.outline.now.extents c.requires.pair.envelopes c.requires.pair.same c.requires.extents (c.may_be_met_within.ensures.any far) (c.may_be_met_within.ensures.unshared far))
