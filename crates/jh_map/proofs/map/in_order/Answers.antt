-- The regions as the sort leaves them.
use Rattle.std.proofs.Common.{rules}
use Rattle.std.proofs.lemmas.List.Sorted.{IsNonDecreasingBy-from_sort_by_key}
use Rattle.jh_cellcfg.specs.declared.region.Region.{Region}
use Rattle.jh_map.proofs.map.in_order.Goals as goal

pub returns-clause-sorted : goal.returns-clause-sorted
returns-clause-sorted c = IsNonDecreasingBy-from_sort_by_key (λ (r : Region). r.virt_start) _ c.in_ok-sort_by_key.ensures.sorted (λ a r q k. search rules)
