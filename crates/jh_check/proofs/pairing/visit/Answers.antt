-- What breaks the rule with the region has an envelope that meets it, so its number is in the range.
use Rattle.jh_check.specs.Findings.{spot}
use Rattle.jh_check.proofs.EnvelopeLemmas.{range_hits}
use Rattle.jh_check.proofs.pairing.visit.Goals as goal

pub beside-requires-clause-hits : goal.beside-requires-clause-hits
beside-requires-clause-hits c =
    let pair = c.args.pair.now in
    range_hits pair.rule (spot pair.a pair.one.now c.args.item c.args.region.now) pair.b pair.other.now pair.envelopes.now c.find_range-range.result c.requires.envelopes c.requires.own c.find_range-range.ensures.behind c.find_range-range.ensures.told
