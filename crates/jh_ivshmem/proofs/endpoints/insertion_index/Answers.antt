-- The search finds the first key that isn't before the device.
use Rattle.std.proofs.Common.{rules}
use Rattle.std.proofs.lemmas.List.Sorted.{IsPartitionPoint-from_clause}
use Rattle.jh_ivshmem.specs.Private.Keys.{is_key_before}
use Rattle.jh_ivshmem.proofs.OrderLemmas.{keys_partitioned}
use Rattle.jh_ivshmem.proofs.endpoints.insertion_index.Goals as goal

pub returns-clause-partition : goal.returns-clause-partition
returns-clause-partition c =
    IsPartitionPoint-from_clause (is_key_before c.args.cell c.args.device) _ _ c.partition_point.ensures.partitioned
    (keys_partitioned c.args.cell c.args.device c.args.keys.now c.requires) (λ a r q k. search rules)
