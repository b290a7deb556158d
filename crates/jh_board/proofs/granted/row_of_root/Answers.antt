-- What the regions give, where no place of it is kept.
use Rattle.std.proofs.Common.{◌≡◌, ℕ, List, Option, Some, None, ap, subst, ◌∙◌}
use Rattle.std.specs.Prelude.{option_map}
use Rattle.jh_history.specs.declared.place.Place.{Place}
use Rattle.jh_history.specs.declared.access.Access.TheVariants.{Read}
use Rattle.jh_history.specs.Access.{place_of, places_from}
use Rattle.jh_history.specs.Lives.{regions_in}
use Rattle.jh_history.specs.Places.{places_in_row}
use Rattle.jh_board.proofs.GrantedLemmas.{row_kept, row_granted, row_lacking}
use Rattle.jh_board.proofs.granted.row_of_root.Goals as goal

pub returns-then-closes_places-clause-places : goal.returns-then-closes_places-clause-places
returns-then-closes_places-clause-places c =
    let image = c.args.image.now in
    let lives = c.args.cells.now.lives in
    let row : List Place = places_in_row c.in_ok-first.first c.args.count in
    let P : ℕ → Type 0 = λ id. Some row ≡ places_from (place_of id (regions_in image lives id) Read) c.args.at c.args.count in
    row_kept image lives image.system.root.id Read c.args.at c.args.count row c.closes_places.result (subst P c.root.ensures c.in_ok-first.ensures.places) (c.closes_places.ensures image) c.if-closes_places.true

pub returns-else-closes_places-clause-places : goal.returns-else-closes_places-clause-places
returns-else-closes_places-clause-places c =
    let image = c.args.image.now in
    let lives = c.args.cells.now.lives in
    let row : List Place = places_in_row c.in_ok-first.first c.args.count in
    let P : ℕ → Type 0 = λ id. Some row ≡ places_from (place_of id (regions_in image lives id) Read) c.args.at c.args.count in
    row_granted image lives image.system.root.id Read c.args.at c.args.count row c.closes_places.result (subst P c.root.ensures c.in_ok-first.ensures.places) (c.closes_places.ensures image) c.if-closes_places.false

pub returns-in_err-first-clause-places : goal.returns-in_err-first-clause-places
returns-in_err-first-clause-places c =
    let image = c.args.image.now in
    let lives = c.args.cells.now.lives in
    let none : Option (List Place) = None in
    let P : ℕ → Type 0 = λ id. none ≡ places_from (place_of id (regions_in image lives id) Read) c.args.at c.args.count in
    ap (option_map (λ (first : Place). places_in_row first c.args.count)) c.from_residual.ensures ∙ row_lacking image lives image.system.root.id Read c.args.at c.args.count (subst P c.root.ensures c.in_err-first.ensures.places)
