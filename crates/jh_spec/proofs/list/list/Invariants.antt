-- What all items tell is what is read so far, and then what those that are left tell.
use Rattle.jh_spec.proofs.ListPrefixes.{IsListPrefix}
use Rattle.jh_spec.proofs.list.list.Given as goal

abbrev pub invariant-loop-item : goal.invariant-loop-item
invariant-loop-item g l = IsListPrefix g.T.FromJson.tells l.item-items l.item-index l.list.items
