-- The places of both rows.
use Rattle.std.proofs.Common.{Bool, List, ap, sym, refl, ◌∙◌}
use Rattle.std.specs.List.{list_any}
use Rattle.std.proofs.lemmas.List.Folds.{list_any-append}
use Rattle.jh_history.specs.declared.place.Place.{Place}
use Rattle.jh_history.specs.Grants.{is_closed_to}
use Rattle.jh_history.specs.Places.{places_of_row}
use Rattle.jh_history.proofs.cells.are_closed.Goals as goal

pub returns-then-is_row_closed : goal.returns-then-is_row_closed
returns-then-is_row_closed c =
    let kept : Place → Bool = is_closed_to c.args.image.now c.args.cells.now c.args.cell in
    let low = places_of_row c.rows.result.0 in
    let high = places_of_row c.rows.result.1 in
    sym (ap (λ (ps : List Place). list_any kept ps) c.rows.ensures.places ∙ list_any-append kept low high ∙ rw (← c.is_row_closed.ensures, c.if-is_row_closed.true) refl)

pub returns : goal.returns
returns c =
    let kept : Place → Bool = is_closed_to c.args.image.now c.args.cells.now c.args.cell in
    let low = places_of_row c.rows.result.0 in
    let high = places_of_row c.rows.result.1 in
    sym (ap (λ (ps : List Place). list_any kept ps) c.rows.ensures.places ∙ list_any-append kept low high ∙ rw (← c.is_row_closed.ensures, c.if-is_row_closed.false) (sym c.is_row_closed-2.ensures))
