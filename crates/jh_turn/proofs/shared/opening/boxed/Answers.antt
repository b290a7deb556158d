-- Pushed into a list that has nothing yet, the box is its one slot.
use Rattle.std.proofs.Common.{◌∷◌, ◌++◌, [], Some, ap, ◌∙◌}
use Rattle.jh_turn.proofs.shared.opening.boxed.Goals as goal

pub returns-in-Ok-new-clause-ok : goal.returns-in-Ok-new-clause-ok
returns-in-Ok-new-clause-ok g c = (c.in-Ok-new.boxed, c.push_reserved.ensures.items ∙ ap (λ l. l ++ Some c.in-Ok-new.boxed ∷ []) c.in-Ok.ensures.items, c.in-Ok-new.ensures.ok)
