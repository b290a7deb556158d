-- The first with the id, and none at the end.
use Rattle.std.proofs.Common.{Bool, ap, sym, ◌∙◌, eq-eqb}
use Rattle.std.specs.Prelude.{find}
use Rattle.jh_cellcfg.specs.declared.config.CellConfig.{CellConfig}
use Rattle.jh_history.proofs.LiveLemmas.{has_number, live_in_is, found_here, nothing_left}
use Rattle.jh_history.proofs.pages.live_in.Goals as goal

pub returns-then-from-id : goal.returns-then-from-id
returns-then-from-id c = λ lives e.
    let it : CellConfig → Bool = has_number c.args.id in
    sym (found_here it c.args.cells.now c.loop-cell.cell-index c.cell-item.result c.loop-cell-test.true c.cell-item.is (eq-eqb c.cell-item.result.id c.args.id (sym c.from.ensures ∙ c.if-from-id.true)))
    ∙ c.loop-cell.invariant
    ∙ live_in_is lives c.args.cells.now c.args.id e

pub returns : goal.returns
returns c = λ lives e.
    let it : CellConfig → Bool = has_number c.args.id in
    ap (find it) (sym (nothing_left c.args.cells.now c.loop-cell.cell-index c.loop-cell-test.false)) ∙ c.loop-cell.invariant ∙ live_in_is lives c.args.cells.now c.args.id e
