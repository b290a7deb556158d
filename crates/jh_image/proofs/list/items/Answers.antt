-- What the items so far have told, and this one.
use Rattle.std.proofs.Common.{◌+◌, sym, subst, ◌∙◌}
use Rattle.jh_spec.proofs.Public.{IsListPrefix, one_told, told_none, all_told}
use Rattle.jh_image.proofs.list.items.Goals as goal

pub returns-in-None : goal.returns-in-None
returns-in-None g c = sym (told_none g.T.FromItem.tells c.args.items.now c.loop-item.item-index c.loop-item.all c.item-item.result c.loop-item-test.true c.item-item.is (sym c.in_ok-told.ensures ∙ c.in-None.is) c.loop-item.invariant)

pub loop-item-preserved : goal.loop-item-preserved
loop-item-preserved g c =
    subst (λ all. IsListPrefix g.T.FromItem.tells c.args.items.now (c.loop-item.item-index + 1) all) (sym c.in_ok-push-in-Some.ensures.ok)
    (one_told g.T.FromItem.tells c.args.items.now c.loop-item.item-index c.loop-item.all c.item-item.result c.in-Some.told c.loop-item-test.true c.item-item.is (sym c.in_ok-told.ensures ∙ c.in-Some.is) c.loop-item.invariant)

pub returns : goal.returns
returns g c = sym (all_told g.T.FromItem.tells c.args.items.now c.loop-item.item-index c.loop-item.all c.loop-item-test.false c.loop-item.invariant)
