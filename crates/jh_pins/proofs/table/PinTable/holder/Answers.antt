-- The first cell that names it, else root.
use Rattle.std.proofs.Common.{true, false, List, Some, sym, ap, ◌∙◌}
use Rattle.std.specs.Prelude.{find, option_map}
use Rattle.jh_pins.specs.Claims.{Claim}
use Rattle.jh_pins.specs.Pins.{is_named_by}
use Rattle.jh_pins.specs.TableView.{TableView}
use Rattle.jh_pins.specs.Holders.{id_of}
use Rattle.jh_pins.proofs.HolderLemmas.{held_first, held_last}
use Rattle.jh_pins.proofs.table.PinTable.holder.Goals as goal

pub returns-in-Some : goal.returns-in-Some
returns-in-Some c =
    let table : TableView = record { root = c.self.inside.root; cells = c.self.inside.cells.items } in
    let first = c.in-Some.ensures ∙ ap (λ (l : List Claim). option_map id_of (find (is_named_by c.args.pin) l)) c.as_slice.ensures.value in
    rw (← c.self.view_is) (held_first table c.args.pin c.in-Some.id first)

pub returns-in-None : goal.returns-in-None
returns-in-None c =
    let table : TableView = record { root = c.self.inside.root; cells = c.self.inside.cells.items } in
    let none = sym c.in-None.is ∙ c.first_to_name.ensures ∙ ap (λ (l : List Claim). option_map id_of (find (is_named_by c.args.pin) l)) c.as_slice.ensures.value in
    rw (← c.self.view_is) (ap (λ n. Some n) c.id.ensures ∙ held_last table c.args.pin true none (sym c.names.ensures ∙ c.if-names.true))

pub returns-in-None-2 : goal.returns-in-None-2
returns-in-None-2 c =
    let table : TableView = record { root = c.self.inside.root; cells = c.self.inside.cells.items } in
    let none = sym c.in-None-2.is ∙ c.first_to_name.ensures ∙ ap (λ (l : List Claim). option_map id_of (find (is_named_by c.args.pin) l)) c.as_slice.ensures.value in
    rw (← c.self.view_is) (held_last table c.args.pin false none (sym c.names.ensures ∙ c.if-names.false))
