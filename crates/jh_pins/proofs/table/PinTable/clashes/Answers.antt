-- One cell more, and all of them.
use Rattle.std.proofs.Common.{◌≡◌, ℕ, ◌+◌, List, length, sym, ap, subst, ◌∙◌, arith, drop}
use Rattle.jh_pins.specs.declared.pin.Clash.{Clash}
use Rattle.jh_pins.specs.Claims.{Claim}
use Rattle.jh_pins.specs.TableView.{TableView}
use Rattle.jh_pins.specs.Clashes.{AreClashesWith, AreClashes}
use Rattle.jh_pins.proofs.ClashLemmas.{ContinuesAll, begins_all, one_cell_more, all_ends, rest_whole}
use Rattle.jh_pins.proofs.table.PinTable.clashes.Goals as goal

pub loop-index-init : goal.loop-index-init
loop-index-init c =
    let P : List Clash → Type 0 = λ clashes. ContinuesAll c.as_slice-cells.result.now 0 clashes in
    subst P (sym c.new-clashes.ensures.items) (begins_all c.as_slice-cells.result.now)

pub loop-index-preserved : goal.loop-index-preserved
loop-index-preserved c =
    let cells = c.as_slice-cells.result.now in
    let index = c.loop-index.index in
    let cell = c.index-cells-index.result in
    let made = c.in_ok-push_clashes_with.ensures in
    let now = made.0 in
    let P : Claim → Type 0 = λ x. AreClashesWith x (drop (index + 1) cells) now in
    let R : List Claim → Type 0 = λ l. AreClashesWith cell l now in
    let Q : List Clash → Type 0 = λ clashes. ContinuesAll cells (index + 1) clashes in
    subst Q (sym made.2) (one_cell_more cells index cell c.loop-index.clashes.items now (omega arith) c.loop-index.invariant (subst P c.index-cells-index.is (subst R (rest_whole cells (index + 1)) made.1)))

pub returns : goal.returns
returns c =
    let cells = c.as_slice-cells.result.now in
    let clashes = c.loop-index.clashes.items in
    let all : c.loop-index.index ≡ length cells = omega arith in
    let own : cells ≡ c.args.self.now.cells = c.as_slice-cells.ensures.value ∙ ap (λ (t : TableView). t.cells) c.self.view_is in
    let P : ℕ → Type 0 = λ n. ContinuesAll cells n clashes in
    let Q : List Clash → Type 0 = λ l. AreClashes c.args.self.now.cells l in
    let R : List Claim → Type 0 = λ l. AreClashes l clashes in
    subst Q (sym c.from_vec.ensures) (subst R own (all_ends cells clashes (subst P all c.loop-index.invariant)))
