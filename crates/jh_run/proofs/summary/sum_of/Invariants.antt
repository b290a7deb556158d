-- The sum so far, of values below 2 ^ 64.
use Rattle.std.proofs.Common.{◌≡◌, ◌≤◌, ◌*◌, ◌^◌, take}
use Rattle.std.specs.Prelude.{sum_by}
use Rattle.jh_run.specs.Summaries.{value_read}
use Rattle.jh_run.proofs.summary.sum_of.Given as goal

abbrev pub invariant-loop-entry : goal.invariant-loop-entry
invariant-loop-entry l = record {
  told : l.sum ≡ sum_by value_read (take l.entry-index l.entries);
  few : l.sum ≤ l.entry-index * 2 ^ 64;
}
