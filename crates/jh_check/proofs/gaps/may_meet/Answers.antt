-- Only the gap of the kind by which the region is looked for moves; the other stays.
use Rattle.std.proofs.Common.{subst}
use Rattle.jh_check.specs.Private.Envelopes.{IsGap}
use Rattle.jh_check.proofs.gaps.may_meet.Goals as goal

pub returns-then-passes_shared-clause-gaps : goal.returns-then-passes_shared-clause-gaps
returns-then-passes_shared-clause-gaps c = record {
  any = c.requires.gaps.any;
  unshared = c.may_be_met_unshared.ensures.gap;
}

pub returns-else-passes_shared-clause-gaps : goal.returns-else-passes_shared-clause-gaps
returns-else-passes_shared-clause-gaps c = record {
  any = subst (λ envelopes. IsGap envelopes c.may_be_met.new.gap) c.as_slice.ensures.value c.may_be_met.ensures.gap;
  unshared = c.requires.gaps.unshared;
}
