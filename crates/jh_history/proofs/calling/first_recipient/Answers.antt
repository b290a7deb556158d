-- The first that is told, and none at the end.
use Rattle.std.proofs.Common.{Bool, ap, sym, ◌∙◌}
use Rattle.std.specs.Prelude.{option_map, find}
use Rattle.jh_cellcfg.specs.declared.config.CellConfig.{CellConfig}
use Rattle.jh_history.specs.Calls.{is_recipient_by}
use Rattle.jh_history.proofs.LiveLemmas.{number, first_told_is, found_here, nothing_left}
use Rattle.jh_history.proofs.calling.first_recipient.Goals as goal

pub returns-then-is_recipient : goal.returns-then-is_recipient
returns-then-is_recipient c = λ lives e.
    let told : CellConfig → Bool = is_recipient_by c.args.about in
    ap (option_map number) (sym (found_here told c.args.cells.now c.loop-cell.cell-index c.cell-item.result c.loop-cell-test.true c.cell-item.is (sym c.is_recipient.ensures ∙ c.if-is_recipient.true)) ∙ c.loop-cell.invariant)
    ∙ first_told_is c.args.about lives c.args.cells.now e

pub returns : goal.returns
returns c = λ lives e.
    let told : CellConfig → Bool = is_recipient_by c.args.about in
    ap (option_map number) (ap (find told) (sym (nothing_left c.args.cells.now c.loop-cell.cell-index c.loop-cell-test.false)) ∙ c.loop-cell.invariant)
    ∙ first_told_is c.args.about lives c.args.cells.now e
