-- The tables stand as it is planned.
use Rattle.std.proofs.Common.{Option, sym, subst}
use Rattle.jh_shape.specs.Claims.{Claims}
use Rattle.jh_edit.specs.declared.planning.Planned.{Planned}
use Rattle.jh_edit.specs.Forest.{IsForest}
use Rattle.jh_shape.specs.Claims.{claims_of}
use Rattle.jh_shape.specs.Pages.{live_root_claims}
use Rattle.jh_board.specs.Private.Editing.{claims_edited, claims_planned}
use Rattle.jh_board.proofs.plans.make_tables.Goals as goal

pub returns-in-Some-clause-forest : goal.returns-in-Some-clause-forest
returns-in-Some-clause-forest c = λ claims forest.
    let planned = c.in-Some.planned in
    let new = c.edit.new.self in
    let P : Option Planned → Type 0 = λ o. IsForest (claims_edited c.args.root.now.memory_regions c.args.cells.now.lives o claims) new in
    let Q : Claims → Type 0 = λ root. IsForest (claims_planned root (claims_of c.coming_target.result) planned claims) new in
    let rooted = subst Q c.root_target-root.ensures.claims (c.edit.ensures.forest claims forest) in
    let R : Claims → Type 0 = λ coming. IsForest (claims_planned (live_root_claims c.args.root.now.memory_regions c.args.cells.now.lives) coming planned claims) new in
    subst P (sym c.in-Some.is) (subst R c.coming_target.ensures.claims rooted)
