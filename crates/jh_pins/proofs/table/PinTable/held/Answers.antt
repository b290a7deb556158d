-- Root's, which no cell names; a cell's, which no earlier one names; none where no cell has the id.
use Rattle.std.proofs.Common.{◌≡◌, List, None, Some, get_or, take, sym, ap, subst, ◌∙◌}
use Rattle.std.specs.Prelude.{position}
use Rattle.jh_pins.specs.declared.pin.PinRun.{PinRun}
use Rattle.jh_pins.specs.Claims.{Claim}
use Rattle.jh_pins.specs.TableView.{TableView}
use Rattle.jh_pins.specs.Holders.{has_id, is_held_by}
use Rattle.jh_pins.specs.Runs.{AreRuns}
use Rattle.jh_pins.specs.Private.Pieces.{is_left}
use Rattle.jh_pins.proofs.HolderLemmas.{held_at, held_by_root, held_by_none, nowhere, somewhere}
use Rattle.jh_pins.proofs.RunLemmas.{same_runs, no_runs}
use Rattle.jh_pins.proofs.table.PinTable.held.Goals as goal

pub returns-then-id : goal.returns-then-id
returns-then-id c =
    let id = c.args.id in
    let root = c.self.inside.root in
    let table : TableView = record { root = root; cells = c.self.inside.cells.items } in
    let P : List PinRun → Type 0 = λ runs. AreRuns (is_held_by c.args.self.now id) runs in
    subst P (sym c.from_vec.ensures) (same_runs (is_left root c.as_slice-cells.result.now) (is_held_by c.args.self.now id) c.in_ok-runs.runs.items
    (λ pin. ap (λ (l : List Claim). is_left root l pin) c.as_slice-cells.ensures.value ∙ held_by_root table id pin c.self.invariant (sym (c.if-id.true ∙ c.id.ensures)) ∙ ap (λ (t : TableView). is_held_by t id pin) c.self.view_is)
    c.in_ok-runs.ensures)

pub returns-in_ok-runs-in-Some : goal.returns-in_ok-runs-in-Some
returns-in_ok-runs-in-Some c =
    let id = c.args.id in
    let index = c.in-Some.index in
    let own = c.self.inside.cells.items in
    let cells = c.as_slice-cells.result.now in
    let cell = c.index-cells-index.result in
    let table : TableView = record { root = c.self.inside.root; cells = own } in
    let found : position (has_id id) own ≡ Some index = ap (λ (t : TableView). position (has_id id) t.cells) c.self.view_is ∙ sym c.in-Some.ensures in
    let at = somewhere id index own cell found in
    let P : List PinRun → Type 0 = λ runs. AreRuns (is_held_by c.args.self.now id) runs in
    subst P (sym c.from_vec-in-Some.ensures) (same_runs (is_left cell (take index cells)) (is_held_by c.args.self.now id) c.in_ok-runs-in-Some.runs.items
    (λ pin.
    ap (λ (x : Claim). is_left x (take index cells) pin) c.index-cells-index.is
    ∙ ap (λ (l : List Claim). is_left (get_or l index cell) (take index l) pin) c.as_slice-cells.ensures.value
    ∙ held_at table index id cell pin c.self.invariant at.0 at.1
    ∙ ap (λ (t : TableView). is_held_by t id pin) c.self.view_is)
    c.in_ok-runs-in-Some.ensures)

pub returns-in-None : goal.returns-in-None
returns-in-None c =
    let id = c.args.id in
    let cells = c.self.inside.cells.items in
    let table : TableView = record { root = c.self.inside.root; cells = cells } in
    let none : position (has_id id) cells ≡ None = ap (λ (t : TableView). position (has_id id) t.cells) c.self.view_is ∙ sym c.index_of.ensures ∙ c.in-None.is in
    let P : List PinRun → Type 0 = λ runs. AreRuns (is_held_by c.args.self.now id) runs in
    subst P (sym c.new.ensures) (no_runs (is_held_by c.args.self.now id)
    (λ pin. ap (λ (t : TableView). is_held_by t id pin) (sym c.self.view_is) ∙ held_by_none table id pin (λ e. c.if-id.false (sym e ∙ sym c.id.ensures)) (nowhere id cells none)))
