-- The board is read, and what is asked of its image is done.
use Rattle.jh_cli.specs.Play.{schedule_file}
use Rattle.jh_cli.specs.Tables.{TablesBy}
use Rattle.jh_cli.proofs.BoardLemmas.{opens}
use Rattle.jh_cli.specs.Order.{AsksFile, AsksWithSchedule}
use Rattle.jh_cli.proofs.OrderLemmas.{board_behind, board_ends}
use Rattle.jh_cli.proofs.StopLemmas.{counted_behind, told_up}
use Rattle.jh_cli.proofs.tables.tables.Goals as goal

pub returns-clause-ends : goal.returns-clause-ends
returns-clause-ends g c =
    let contents = g.F.Files.contents c.args.files.now in
    let rest = rw c.open.ensures.kept at c.tables_by.ensures.ends in
    opens contents c.args.board.now (TablesBy contents c.args.name.now) c.in_ok-image.image c.in_ok-image.ensures.image c.in_ok-image.ensures.admitted c.tables_by.result rest

pub returns-clause-counted : goal.returns-clause-counted
returns-clause-counted g c =
    counted_behind (g.F.Files.faults c.args.files.now) (g.F.Files.faults c.open.new.files) (g.F.Files.faults c.tables_by.new.files) (g.F.Files.failed c.tables_by.new.files) c.open.ensures.never_falls c.tables_by.result c.tables_by.ensures.counted

pub returns-clause-asked : goal.returns-clause-asked
returns-clause-asked g c =
    let contents = g.F.Files.contents c.args.files.now in
    let rest = rw c.open.ensures.kept at c.tables_by.ensures.asked in
    board_behind g.F.Files contents c.args.board.now (λ image behind. AsksFile g.F.Files behind c.tables_by.new.files contents c.args.name.now (schedule_file image)) c.in_ok-image.image c.args.files.now c.open.new.files c.tables_by.new.files
    c.in_ok-image.ensures.image c.in_ok-image.ensures.asked c.tables_by.result rest

pub returns-in_err-image-clause-asked : goal.returns-in_err-image-clause-asked
returns-in_err-image-clause-asked g c =
    let contents = g.F.Files.contents c.args.files.now in
    let s = c.args.files.now in
    let t = c.open.new.files in
    told_up (AsksWithSchedule g.F.Files s t contents c.args.board.now c.args.name.now) c.from_residual.result c.in_err-image.field-0.0 c.from_residual.ensures.1
    (board_ends g.F.Files contents c.args.board.now (λ image behind. AsksFile g.F.Files behind t contents c.args.name.now (schedule_file image)) s t c.in_err-image.field-0.0 c.in_err-image.ensures.asked_until)
