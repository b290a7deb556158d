-- The system is read, and then the cells.
use Rattle.std.proofs.Common.{[], inl, inr}
use Rattle.std.specs.Prelude.{map, string_bytes}
use Rattle.jh_cli.specs.Reading.{EndsAtFile}
use Rattle.jh_cli.specs.Check.{system_file, SystemRefusal, ChecksCells}
use Rattle.jh_cli.specs.Order.{AsksTo, AsksCells, AsksCheck}
use Rattle.jh_cli.proofs.StopLemmas.{goes_on, counted_behind, told_up, both_ended, on_ending}
use Rattle.jh_cli.proofs.check.check.Goals as goal

pub returns-clause-ends : goal.returns-clause-ends
returns-clause-ends g c =
    let contents = g.F.Files.contents c.args.files.now in
    let rest = rw c.system.ensures.kept at c.check_cells.ensures.ends in
    goes_on contents c.args.system_name.now system_file (ChecksCells contents (map string_bytes c.args.names.now)) c.in_ok-system.system c.in_ok-system.ensures.ok c.check_cells.result rest

pub returns-clause-counted : goal.returns-clause-counted
returns-clause-counted g c =
    counted_behind (g.F.Files.faults c.args.files.now) (g.F.Files.faults c.system.new.files) (g.F.Files.faults c.check_cells.new.files) (g.F.Files.failed c.check_cells.new.files) c.system.ensures.never_falls c.check_cells.result c.check_cells.ensures.counted

pub returns-clause-asked : goal.returns-clause-asked
returns-clause-asked g c =
    let contents = g.F.Files.contents c.args.files.now in
    let names = map string_bytes c.args.names.now in
    let s = c.args.files.now in
    let t = c.system.new.files in
    let u = c.check_cells.new.files in
    let rest = rw c.system.ensures.kept at c.check_cells.ensures.asked in
    on_ending (AsksCells g.F.Files t u contents names) (AsksCheck g.F.Files s u contents c.args.system_name.now names) c.check_cells.result
    (λ reply reads. inr (record { of_system = c.in_ok-system.system; spells = c.in_ok-system.ensures.ok; behind = t; asked = c.in_ok-system.ensures.asked; rest = reads })) rest

pub returns-in_err-system-clause-asked : goal.returns-in_err-system-clause-asked
returns-in_err-system-clause-asked g c =
    let contents = g.F.Files.contents c.args.files.now in
    let name = c.args.system_name.now in
    let names = map string_bytes c.args.names.now in
    let s = c.args.files.now in
    let t = c.system.new.files in
    told_up (AsksCheck g.F.Files s t contents name names) c.from_residual.result c.in_err-system.field-0.0 c.from_residual.ensures.1
    (both_ended (EndsAtFile contents name SystemRefusal) (AsksTo g.F.Files s t [] name) (AsksCheck g.F.Files s t contents name names) c.in_err-system.field-0.0
    (λ reply ends last. inl (ends, last)) c.in_err-system.ensures.err c.in_err-system.ensures.asked_until)
