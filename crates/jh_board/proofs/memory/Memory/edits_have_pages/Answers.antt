-- The pool is that of the same memory.
use Rattle.std.proofs.Common.{refl}
use Rattle.jh_board.proofs.memory.Memory.edits_have_pages.Goals as goal

pub returns-clause-create : goal.returns-clause-create
returns-clause-create c = rw (← c.self.view_is) (λ claims rootward coming root tree. c.planned_edits_have_pages.ensures.create claims rootward coming c.self.inside.stage root tree refl)

pub returns-clause-others : goal.returns-clause-others
returns-clause-others c = rw (← c.self.view_is) (λ claims rootward root tree. c.planned_edits_have_pages.ensures.enough claims rootward c.self.inside.stage root tree)
