-- The regions are root's.
use Rattle.jh_board.proofs.IndexLemmas.{sized_in_range, own_in_range}
use Rattle.jh_board.proofs.indexed.IndexedImage.subpage.Goals as goal

pub returns-clause-within : goal.returns-clause-within
returns-clause-within c =
    sized_in_range c.args.at c.subpage.result (own_in_range c.self.inside.image c.subpage.result c.self.invariant.admitted (rw (← c.self.invariant.regions) c.subpage.ensures.own)) c.subpage.ensures.first
