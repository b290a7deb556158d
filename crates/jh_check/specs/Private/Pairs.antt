-- Two cells that a rule about two regions compares.
use Rattle.std.specs.Prelude.{◌≡◌, ℕ, List}
use Rattle.jh_check.specs.declared.finding.Finding.{Finding}
use Rattle.jh_check.specs.declared.pairing.Pair.{Pair}
use Rattle.jh_check.specs.Findings.{between}
use Rattle.jh_check.specs.Private.Blocks.{between_from}
use Rattle.jh_check.specs.Private.Envelopes.{AreOf}

-- the envelopes are those of the other cell, and cells of one number are one
pub record IsPair (pair : Pair) : Type 0 where
  pub envelopes : AreOf pair.rule pair.b pair.other.now pair.envelopes.now
  pub same : pair.a ≡ pair.b → pair.one.now ≡ pair.other.now

-- what the rule finds in each region of the one cell with each of the other
abbrev pub in_pair : Pair → List Finding
in_pair pair = between pair.rule pair.a pair.one.now pair.b pair.other.now

-- what the rule finds in each region of the one cell, from the number `first` on, with each of the other
abbrev pub in_pair_from : Pair → ℕ → List Finding
in_pair_from pair first = between_from pair.rule pair.a pair.one.now pair.b pair.other.now first
