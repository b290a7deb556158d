-- The starts rise, so that the ranges are parted at the limit, and the search finds the point.
use Rattle.std.proofs.Common.{◌≡◌, leb, true, false, arith, rules}
use Rattle.std.proofs.lemmas.Bool.{leb-true, leb-false}
use Rattle.std.specs.List.Sorted.{IsPartitionPoint}
use Rattle.std.proofs.lemmas.List.Sorted.{IsPartitionPoint-from_clause, IsPartitionedBy-leb}
use Rattle.jh_num.specs.declared.range.Range.{Range}
use Rattle.jh_num.proofs.SearchLemmas.{starts_rise}
use Rattle.jh_num.proofs.splice.starting_by.Goals as goal

pub returns : goal.returns
returns c =
    let xs = c.args.ranges.now in
    let limit = c.args.limit in
    let parted = IsPartitionedBy-leb (λ (x : Range). x.start) xs limit (starts_rise xs c.requires) in
    let point : IsPartitionPoint (λ (x : Range). leb x.start limit ≡ true) (λ (x : Range). leb x.start limit ≡ false) xs c.partition_point.result =
    IsPartitionPoint-from_clause (λ (x : Range). leb x.start limit) xs c.partition_point.result c.partition_point.ensures.partitioned parted (λ a r q k. search rules) in
    record {
      bound = c.partition_point.ensures.bound;
      before = λ k d below. leb-true _ _ (point.0 k d (omega arith) below);
      at = λ d within. leb-false _ _ (point.1 c.partition_point.result d (omega arith) within);
    }
