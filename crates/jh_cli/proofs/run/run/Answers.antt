-- The board is read, and the journal of its run told.
use Rattle.std.proofs.Common.{[], Ok}
use Rattle.jh_outside.specs.Trail.{no_ask}
use Rattle.jh_cli.specs.Run.{IsToldRun}
use Rattle.jh_cli.specs.Private.Endings.{reply_of}
use Rattle.jh_cli.proofs.BoardLemmas.{opens}
use Rattle.jh_cli.specs.Order.{AsksWhole, AsksBoardAlone}
use Rattle.jh_cli.proofs.OrderLemmas.{board_behind, board_ends, ran_at_none}
use Rattle.jh_cli.proofs.StopLemmas.{told_up}
use Rattle.jh_cli.proofs.RunLemmas.{ran_counted}
use Rattle.jh_cli.proofs.run.run.Goals as goal

pub returns-clause-ends : goal.returns-clause-ends
returns-clause-ends g c =
    opens (g.F.Files.contents c.args.files.now) c.args.board.now IsToldRun c.in_ok-image.image c.in_ok-image.ensures.image c.in_ok-image.ensures.admitted (Ok c.in_ok-run_image.field-0) c.in_ok-run_image.ensures

pub returns-clause-counted : goal.returns-clause-counted
returns-clause-counted g c =
    ran_counted (g.F.Files.faults c.args.files.now) (g.F.Files.faults c.open.new.files) (g.F.Files.failed c.open.new.files) c.in_ok-image.image (reply_of c.in_ok-run_image.field-0) c.in_ok-run_image.ensures

pub returns-clause-asked : goal.returns-clause-asked
returns-clause-asked g c =
    let files = c.open.new.files in
    let reply = reply_of c.in_ok-run_image.field-0 in
    board_behind g.F.Files (g.F.Files.contents c.args.files.now) c.args.board.now (λ image behind. AsksWhole g.F.Files behind files []) c.in_ok-image.image c.args.files.now files files
    c.in_ok-image.ensures.image c.in_ok-image.ensures.asked (Ok c.in_ok-run_image.field-0) (no_ask files, ran_at_none c.in_ok-image.image reply c.in_ok-run_image.ensures)

pub returns-in_err-image-clause-asked : goal.returns-in_err-image-clause-asked
returns-in_err-image-clause-asked g c =
    let contents = g.F.Files.contents c.args.files.now in
    let s = c.args.files.now in
    let t = c.open.new.files in
    told_up (AsksBoardAlone g.F.Files s t contents c.args.board.now) c.from_residual.result c.in_err-image.field-0.0 c.from_residual.ensures.1
    (board_ends g.F.Files contents c.args.board.now (λ image behind. AsksWhole g.F.Files behind t []) s t c.in_err-image.field-0.0 c.in_err-image.ensures.asked_until)
