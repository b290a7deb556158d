-- What the items so far have told.
use Rattle.jh_spec.proofs.Public.{IsListPrefix}
use Rattle.jh_image.proofs.list.items.Given as goal

abbrev pub invariant-loop-item : goal.invariant-loop-item
invariant-loop-item g l = IsListPrefix g.T.FromItem.tells l.items l.item-index l.all
