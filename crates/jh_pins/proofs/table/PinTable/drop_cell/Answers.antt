-- The claim of the id, if there is one, is taken out.
use Rattle.std.proofs.Common.{◌≡◌, suc, ◌∷◌, List, Some, None, sym, ap, subst, ◌∙◌, arith}
use Rattle.std.specs.Prelude.{position}
use Rattle.std.proofs.lemmas.List.Quantifiers.{all_pairs_remove}
use Rattle.jh_pins.specs.Claims.{Claim}
use Rattle.jh_pins.specs.TableView.{TableView, AreTwoCells, HaveOwnIds}
use Rattle.jh_pins.specs.Holders.{has_id}
use Rattle.jh_pins.proofs.HolderLemmas.{dropped, none_other, nowhere, somewhere}
use Rattle.jh_pins.proofs.table.PinTable.drop_cell.Goals as goal

pub invariant_of-self : goal.invariant_of-self
invariant_of-self c =
    let root = c.self.inside.root in
    let cells = c.self.inside.cells.items in
    let found : position (has_id c.args.id) cells ≡ Some c.in-Some.index = ap (λ (t : TableView). position (has_id c.args.id) t.cells) c.self.view_is ∙ sym c.in-Some.ensures in
    let within = (somewhere c.args.id c.in-Some.index cells root found).0 in
    let Q : List Claim → Type 0 = λ l. HaveOwnIds root l in
    subst Q (sym c.remove.ensures.items) (all_pairs_remove AreTwoCells (root ∷ cells) (suc c.in-Some.index) (omega arith) c.self.invariant)

pub returns-in-Some-clause-table : goal.returns-in-Some-clause-table
returns-in-Some-clause-table c =
    let root = c.self.inside.root in
    let cells = c.self.inside.cells.items in
    let found : position (has_id c.args.id) cells ≡ Some c.in-Some.index = ap (λ (t : TableView). position (has_id c.args.id) t.cells) c.self.view_is ∙ sym c.in-Some.ensures in
    let made : List Claim → TableView = λ l. record { root = root; cells = l } in
    rw (← c.self.view_is) (ap made (c.remove.ensures.items ∙ dropped root cells c.args.id c.in-Some.index c.self.invariant found))

pub returns-in_default-clause-table : goal.returns-in_default-clause-table
returns-in_default-clause-table c =
    let root = c.self.inside.root in
    let cells = c.self.inside.cells.items in
    let none : position (has_id c.args.id) cells ≡ None = ap (λ (t : TableView). position (has_id c.args.id) t.cells) c.self.view_is ∙ sym c.index_of.ensures ∙ c.in_default.is in
    let made : List Claim → TableView = λ l. record { root = root; cells = l } in
    rw (← c.self.view_is) (ap made (sym (none_other c.args.id cells (nowhere c.args.id cells none))))
