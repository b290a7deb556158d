-- The mask is made of the list of marks, which are those of the live cells in order.
use Rattle.std.proofs.Common.{Bool, false, List, get_or, sym, ap, ◌∙◌}
use Rattle.jh_life.proofs.JoinedLemmas.{marks_joined}
use Rattle.jh_life.proofs.cells.Cells.loadable.Goals as goal

pub returns : goal.returns
returns c = λ i.
    rw (← c.self.view_is)
    (c.mask_of.ensures i
    ∙ ap (λ (marks : List Bool). get_or marks i false) (c.as_slice.ensures.value ∙ sym (marks_joined c.self.inside.configs.items c.self.inside.marks.items c.self.invariant.even)))
