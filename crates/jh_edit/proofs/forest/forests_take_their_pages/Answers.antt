-- Each taken page has one use, and no other page has any.
use Rattle.std.proofs.Common.{subst}
use Rattle.jh_pool.specs.Pages.{AreHadOnce, PoolView}
use Rattle.jh_edit.specs.Forest.{uses}
use Rattle.jh_edit.proofs.forest.forests_take_their_pages.Goals as goal

pub returns : goal.returns
returns c = λ claims stage is forest.
    let P : PoolView → Type 0 = λ pool. AreHadOnce pool (uses stage) in
    let had : AreHadOnce stage.pool (uses stage) = record { once = λ page of. forest.once page; taken = λ page of. ((forest.taken page).1, (forest.taken page).0) } in
    c.pages_taken_once_are_counted.ensures (uses stage) (subst P is had)
