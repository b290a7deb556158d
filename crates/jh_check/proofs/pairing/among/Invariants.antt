-- No envelope meets the gaps, the block isn't overrun, and found plus to be found is the same, capped.
use Rattle.std.proofs.Common.{◌≡◌, ◌+◌, ◌≤◌, ◌++◌}
use Rattle.jh_check.specs.declared.blocks.TheConstants.{BLOCK}
use Rattle.jh_check.specs.Lists.{capped}
use Rattle.jh_check.specs.Private.Envelopes.{AreGaps}
use Rattle.jh_check.specs.Private.Blocks.{between_from}
use Rattle.jh_check.proofs.pairing.among.Given as goal

abbrev pub invariant-loop-r : goal.invariant-loop-r
invariant-loop-r l = record {
  gaps : AreGaps l.pair.envelopes.now l.gaps;
  within : l.r ≤ l.first + BLOCK;
  found : capped (l.found ++ between_from l.pair.rule l.pair.a l.pair.one.now l.pair.b l.pair.other.now l.r) ≡ capped (l.initial.found ++ between_from l.pair.rule l.pair.a l.pair.one.now l.pair.b l.pair.other.now l.first);
}
