-- The search finds the last region that begins at or before the address.
use Rattle.std.proofs.Common.{leb, rules, arith}
use Rattle.std.proofs.lemmas.List.Sorted.{IsPartitionPoint-from_clause, IsPartitionedBy-leb}
use Rattle.jh_mmio.specs.Index.{start_at}
use Rattle.jh_mmio.proofs.IndexLemmas.{IsNumberAt_none, IsNumberAt_some}
use Rattle.jh_mmio.proofs.index.number_at.Goals as goal

pub returns-then-n-eq0 : goal.returns-then-n-eq0
returns-then-n-eq0 c =
    let point = IsPartitionPoint-from_clause (λ k. leb (start_at c.args.regions.now k) c.args.at) _ _ c.partition_point-n.ensures.partitioned (IsPartitionedBy-leb (start_at c.args.regions.now) c.args.order.now c.args.at c.requires.order.sorted) (λ a r q k. search rules) in
    IsNumberAt_none c.args.regions.now c.args.order.now c.args.at c.partition_point-n.result c.requires.order point c.if-n-eq0.true

pub returns-else-n-eq0 : goal.returns-else-n-eq0
returns-else-n-eq0 c =
    let point = IsPartitionPoint-from_clause (λ k. leb (start_at c.args.regions.now k) c.args.at) _ _ c.partition_point-n.ensures.partitioned (IsPartitionedBy-leb (start_at c.args.regions.now) c.args.order.now c.args.at c.requires.order.sorted) (λ a r q k. search rules) in
    IsNumberAt_some c.args.regions.now c.args.order.now c.args.at c.partition_point-n.result c.requires.order c.requires.apart point (omega arith) c.partition_point-n.ensures.bound
