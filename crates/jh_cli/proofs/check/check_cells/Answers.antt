-- The call ends at a cell's file, or all are read and checked.
use Rattle.std.proofs.Common.{inl, inr}
use Rattle.std.specs.Prelude.{map, string_bytes}
use Rattle.jh_cli.specs.Check.{ChecksCells}
use Rattle.jh_cli.specs.Order.{AsksToCell, AsksCells}
use Rattle.jh_cli.specs.Private.Endings.{reply_of}
use Rattle.jh_cli.proofs.OrderLemmas.{checked_at_none}
use Rattle.jh_cli.proofs.StopLemmas.{on_ended, told_up}
use Rattle.jh_cli.proofs.check.check_cells.Goals as goal

pub returns-in_err-cells-clause-ends : goal.returns-in_err-cells-clause-ends
returns-in_err-cells-clause-ends g c =
    let contents = g.F.Files.contents c.args.files.now in
    let names = map string_bytes c.args.names.now in
    let system = c.args.system.now in
    told_up (ChecksCells contents names system) c.from_residual.result c.in_err-cells.field-0.0 c.from_residual.ensures.1
    (on_ended (AsksToCell g.F.Files c.args.files.now c.cells.new.files contents names) (ChecksCells contents names system) c.in_err-cells.field-0.0 (λ reply stops. inl stops.ends) c.in_err-cells.ensures.asked_until)

pub returns-in_err-cells-clause-asked : goal.returns-in_err-cells-clause-asked
returns-in_err-cells-clause-asked g c =
    let contents = g.F.Files.contents c.args.files.now in
    let names = map string_bytes c.args.names.now in
    let s = c.args.files.now in
    let t = c.cells.new.files in
    told_up (AsksCells g.F.Files s t contents names) c.from_residual.result c.in_err-cells.field-0.0 c.from_residual.ensures.1
    (on_ended (AsksToCell g.F.Files s t contents names) (AsksCells g.F.Files s t contents names) c.in_err-cells.field-0.0 (λ reply stops. inl stops) c.in_err-cells.ensures.asked_until)

pub returns-clause-asked : goal.returns-clause-asked
returns-clause-asked g c =
    inr (c.in_ok-cells.ensures.asked, checked_at_none c.args.system.now c.as_slice.result.now (reply_of c.in_ok-tell_findings.field-0) c.in_ok-tell_findings.ensures)
