-- One cell more.
use Rattle.std.proofs.Common.{Bool, sym, ◌∙◌}
use Rattle.jh_cellcfg.specs.declared.config.CellConfig.{CellConfig}
use Rattle.jh_history.specs.LiveView.{is_locked_by}
use Rattle.jh_history.proofs.LoopLemmas.{any_found, any_next, any_end, any_live}
use Rattle.jh_history.proofs.locked.is_any_locked.Goals as goal

pub returns-then-is_locked : goal.returns-then-is_locked
returns-then-is_locked g c = λ lives e.
    let test : CellConfig → Bool = is_locked_by (g.B.Bytes.byte_of c.args.bytes.now) in
    sym (any_found test c.args.cells.now c.loop-cell.cell-index c.cell-item.result c.loop-cell-test.true c.cell-item.is (sym c.is_locked.ensures ∙ c.if-is_locked.true)) ∙ any_live test lives c.args.cells.now e

pub loop-cell-preserved : goal.loop-cell-preserved
loop-cell-preserved g c =
    let test : CellConfig → Bool = is_locked_by (g.B.Bytes.byte_of c.args.bytes.now) in
    any_next test c.args.cells.now c.loop-cell.cell-index c.cell-item.result c.loop-cell-test.true c.cell-item.is c.loop-cell.invariant (sym c.is_locked.ensures ∙ c.if-is_locked.false)

pub returns : goal.returns
returns g c = λ lives e.
    let test : CellConfig → Bool = is_locked_by (g.B.Bytes.byte_of c.args.bytes.now) in
    sym (any_end test c.args.cells.now c.loop-cell.cell-index c.loop-cell-test.false c.loop-cell.invariant) ∙ any_live test lives c.args.cells.now e
