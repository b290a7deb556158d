-- The bytes at the places of the row, where root is granted them all.
use Rattle.std.proofs.Common.{ℕ, ◌++◌, List, Option, Some, map, ap, sym, ◌∙◌}
use Rattle.std.specs.Prelude.{option_map}
use Rattle.jh_history.specs.declared.access.Access.TheVariants.{Read}
use Rattle.jh_history.specs.declared.place.Place.{Place}
use Rattle.jh_history.specs.Grants.{granted_in}
use Rattle.jh_history.specs.Places.{places_in_row}
use Rattle.jh_board.specs.Pages.{byte_of}
use Rattle.jh_board.proofs.RootReadLemmas.{root_beyond}
use Rattle.jh_board.proofs.state.StateRootBytes.append.Goals as goal

pub returns-in_ok-append-in-Some : goal.returns-in_ok-append-in-Some
returns-in_ok-append-in-Some c =
    let image = c.self.inside.image.now in
    let held = c.self.inside.held.now in
    let lives = held.cells.lives in
    let place : ℕ → Option Place = granted_in image lives image.system.root.id Read in
    let old : List ℕ = c.args.bytes.now.items in
    let row : List Place = places_in_row c.in-Some.first c.args.count in
    let put : Option (List ℕ) → Option (List ℕ) = option_map (λ (bs : List ℕ). old ++ bs) in
    rw (← c.self.view_is)
    (ap put (c.rows_are_read_byte_by_byte.ensures (byte_of held.memory) place c.args.at c.args.count (λ a le. root_beyond image lives a c.no_cpu_is_above_15.ensures.admitted le)
    ∙ ap (option_map (map (byte_of held.memory))) (sym c.in-Some.ensures.places))
    ∙ ap Some (sym c.in_ok-append-in-Some.ensures))

pub returns-in-None : goal.returns-in-None
returns-in-None c =
    let image = c.self.inside.image.now in
    let held = c.self.inside.held.now in
    let lives = held.cells.lives in
    let place : ℕ → Option Place = granted_in image lives image.system.root.id Read in
    let old : List ℕ = c.args.bytes.now.items in
    let put : Option (List ℕ) → Option (List ℕ) = option_map (λ (bs : List ℕ). old ++ bs) in
    rw (← c.self.view_is)
    (ap put (c.rows_are_read_byte_by_byte.ensures (byte_of held.memory) place c.args.at c.args.count (λ a le. root_beyond image lives a c.no_cpu_is_above_15.ensures.admitted le)
    ∙ ap (option_map (map (byte_of held.memory))) (sym c.in-None.ensures.places)))
