-- The file is the last that is read, and the call ends at it, or at none.
use Rattle.jh_cli.specs.Play.{schedule_file}
use Rattle.jh_cli.specs.Order.{AsksFile}
use Rattle.jh_cli.specs.Private.Endings.{reply_of}
use Rattle.jh_cli.proofs.OrderLemmas.{file_ends, file_read, tables_at_none}
use Rattle.jh_cli.proofs.StopLemmas.{told_up}
use Rattle.jh_cli.proofs.tables.tables_by.Goals as goal

pub returns-in_err-cpus-clause-asked : goal.returns-in_err-cpus-clause-asked
returns-in_err-cpus-clause-asked g c =
    let contents = g.F.Files.contents c.args.files.now in
    let name = c.args.name.now in
    let s = c.args.files.now in
    let t = c.schedule.new.files in
    told_up (AsksFile g.F.Files s t contents name (schedule_file c.args.image)) c.from_residual.result c.in_err-cpus.field-0.0 c.from_residual.ensures.1
    (file_ends g.F.Files contents name (schedule_file c.args.image) s t c.in_err-cpus.field-0.0 c.in_err-cpus.ensures.err c.in_err-cpus.ensures.asked_until)

pub returns-clause-asked : goal.returns-clause-asked
returns-clause-asked g c =
    file_read g.F.Files (g.F.Files.contents c.args.files.now) c.args.name.now (schedule_file c.args.image) c.args.files.now c.schedule.new.files (reply_of c.in_ok-tables_image.field-0) c.in_ok-cpus.ensures.asked (tables_at_none c.args.image c.as_slice.result.now (reply_of c.in_ok-tables_image.field-0) c.in_ok-tables_image.ensures)
