-- The ends rise, so that all early ones come first, and the search stops behind them.
use Rattle.std.proofs.Common.{◌≡◌, ltb, true, false, arith, rules}
use Rattle.std.proofs.lemmas.Bool.{ltb-true, ltb-false}
use Rattle.std.specs.List.Sorted.{IsPartitionPoint}
use Rattle.std.proofs.lemmas.List.Sorted.{IsPartitionPoint-from_clause, IsPartitionedBy-ltb}
use Rattle.jh_num.specs.declared.range.Range.{Range}
use Rattle.jh_num.proofs.SearchLemmas.{ends_rise}
use Rattle.jh_num.proofs.splice.ending_before.Goals as goal

pub returns : goal.returns
returns c =
    let xs = c.args.ranges.now in
    let limit = c.args.limit in
    let parted = IsPartitionedBy-ltb (λ (x : Range). x.end) xs limit (ends_rise xs c.requires) in
    let point : IsPartitionPoint (λ (x : Range). ltb x.end limit ≡ true) (λ (x : Range). ltb x.end limit ≡ false) xs c.partition_point.result =
    IsPartitionPoint-from_clause (λ (x : Range). ltb x.end limit) xs c.partition_point.result c.partition_point.ensures.partitioned parted (λ a r q k. search rules) in
    record {
      bound = c.partition_point.ensures.bound;
      before = λ k d below. ltb-true _ _ (point.0 k d (omega arith) below);
      at = λ d within. ltb-false _ _ (point.1 c.partition_point.result d (omega arith) within);
    }
