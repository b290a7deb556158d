-- The numbers that were kept, sorted.
use Rattle.std.proofs.Common.{rules}
use Rattle.std.proofs.lemmas.List.Sorted.{IsNonDecreasingBy-from_sort_by_key}
use Rattle.jh_mmio.specs.Index.{start_at}
use Rattle.jh_mmio.proofs.IndexLemmas.{IsOrder_sorted}
use Rattle.jh_mmio.proofs.index.in_order.Goals as goal

pub returns : goal.returns
returns c = IsOrder_sorted c.args.regions.now _ _ c.in_ok-numbers.ensures c.sort_by_key.ensures.permutation (IsNonDecreasingBy-from_sort_by_key (start_at c.args.regions.now) _ c.in_ok-sort_by_key.ensures.sorted (λ a r q k. search rules))
