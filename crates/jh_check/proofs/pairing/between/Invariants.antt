-- No envelope meets the gaps, and what is found and what later blocks give is, capped, what all give.
use Rattle.std.proofs.Common.{◌≡◌, ◌*◌, ◌++◌}
use Rattle.jh_check.specs.declared.blocks.TheConstants.{BLOCK}
use Rattle.jh_check.specs.Lists.{capped}
use Rattle.jh_check.specs.Findings.{between}
use Rattle.jh_check.specs.Private.Envelopes.{AreGaps}
use Rattle.jh_check.specs.Private.Blocks.{between_from}
use Rattle.jh_check.proofs.pairing.between.Given as goal

abbrev pub invariant-loop-k : goal.invariant-loop-k
invariant-loop-k l = record {
  gaps : AreGaps l.pair.envelopes.now l.gaps;
  found : capped (l.found ++ between_from l.pair.rule l.pair.a l.pair.one.now l.pair.b l.pair.other.now (BLOCK * l.k)) ≡ capped (l.initial.found ++ between l.pair.rule l.pair.a l.pair.one.now l.pair.b l.pair.other.now);
}
