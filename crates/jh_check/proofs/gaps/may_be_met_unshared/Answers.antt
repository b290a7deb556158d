-- The gap is carried over to the envelopes that are looked through, and back.
use Rattle.std.proofs.Common.{sym, subst}
use Rattle.jh_check.specs.Private.Envelopes.{IsGap}
use Rattle.jh_check.proofs.gaps.may_be_met_unshared.Goals as goal

pub may_be_met-requires-clause-gap : goal.may_be_met-requires-clause-gap
may_be_met-requires-clause-gap c = subst (λ envelopes. IsGap envelopes c.args.gap.now) (sym c.unshared_of.ensures) c.requires.gap

pub returns-clause-gap : goal.returns-clause-gap
returns-clause-gap c = subst (λ envelopes. IsGap envelopes c.may_be_met.new.gap) c.unshared_of.ensures c.may_be_met.ensures.gap
