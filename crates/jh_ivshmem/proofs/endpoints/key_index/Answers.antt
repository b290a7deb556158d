-- The key at the index is the device's, or none is.
use Rattle.std.proofs.Common.{sym}
use Rattle.jh_ivshmem.proofs.OrderLemmas.{key_at, past_keys, other_key}
use Rattle.jh_ivshmem.proofs.endpoints.key_index.Goals as goal
use Rattle.jh_ivshmem.proofs.endpoints.key_index.Goals.{else-i-keys-via-then-i-keys+else-is_meant, else-i-keys-via-else-i-keys}

pub returns-then-is_meant : goal.returns-then-is_meant
returns-then-is_meant c =
    key_at c.args.cell c.args.device c.args.keys.now c.insertion_index-i.result _ c.insertion_index-i.ensures.partition c.if-i-keys.true (sym c.if-is_meant.ensures)

pub returns-else-i-keys : goal.returns-else-i-keys
returns-else-i-keys c = elim c.else-i-keys.branch [
  | else-i-keys-via-then-i-keys+else-is_meant w ↦
      other_key c.args.cell c.args.device c.args.keys.now c.insertion_index-i.result _ c.insertion_index-i.ensures.partition c.requires (sym w.if-is_meant.ensures)
  | else-i-keys-via-else-i-keys w ↦
      past_keys c.args.cell c.args.device c.args.keys.now c.insertion_index-i.result c.insertion_index-i.ensures.partition c.requires w.if-i-keys.false
]
