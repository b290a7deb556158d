-- The page taken was the last of the free ones.
use Rattle.std.specs.Prelude.{vec_capacity}
use Rattle.jh_pool.proofs.EditLemmas.{popped_stands, popped_page, popped_taken, popped_free, popped_others}
use Rattle.jh_pool.proofs.pool.Pool.take.Goals as goal

pub invariant_of-self : goal.invariant_of-self
invariant_of-self c = popped_stands c.self.inside.base c.self.inside.size (vec_capacity c.self.inside.free) (vec_capacity c.pop.new.self) c.pop.result c.self.inside.free.items c.pop.new.self.items c.pop.ensures.capacity c.pop.ensures.items c.self.invariant

pub returns-clause-page : goal.returns-clause-page
returns-clause-page c = rw (← c.self.view_is) (popped_page c.self.inside.base c.self.inside.size (vec_capacity c.self.inside.free) c.pop.result c.self.inside.free.items c.pop.new.self.items c.pop.ensures.items c.self.invariant)

pub returns-clause-was_free : goal.returns-clause-was_free
returns-clause-was_free c = rw (← c.self.view_is) (popped_free c.pop.result c.self.inside.free.items c.pop.new.self.items c.pop.ensures.items)

pub returns-clause-taken : goal.returns-clause-taken
returns-clause-taken c = popped_taken c.self.inside.base c.self.inside.size (vec_capacity c.self.inside.free) c.pop.result c.self.inside.free.items c.pop.new.self.items c.pop.ensures.items c.self.invariant

pub returns-clause-others : goal.returns-clause-others
returns-clause-others c = rw (← c.self.view_is) (popped_others c.pop.result c.self.inside.free.items c.pop.new.self.items c.pop.ensures.items)
