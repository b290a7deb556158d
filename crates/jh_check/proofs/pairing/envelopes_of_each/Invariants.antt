-- There are as many envelopes as cells so far, and each tells of the cell of its number.
use Rattle.std.proofs.Common.{◌≡◌, ℕ, ◌<◌, length, get_or}
use Rattle.jh_cellcfg.specs.declared.config.CellConfig.{CellConfig}
use Rattle.jh_check.specs.declared.envelope.Envelopes.{Envelopes}
use Rattle.jh_check.specs.Private.Cells.{cells_of}
use Rattle.jh_check.specs.Private.Envelopes.{AreOf}
use Rattle.jh_check.proofs.pairing.envelopes_of_each.Given as goal

abbrev pub invariant-loop-b : goal.invariant-loop-b
invariant-loop-b l = record {
  count : length l.each.items ≡ l.b;
  known : (k : ℕ) (d : Envelopes) (c : CellConfig) → k < l.b → AreOf l.rule k (get_or (cells_of l.setup) k c) (get_or l.each.items k d);
}
