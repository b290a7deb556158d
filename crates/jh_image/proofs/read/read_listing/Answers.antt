-- The board can't be read, is too large, or has a fault.
use Rattle.std.proofs.Common.{[], ◌∷◌}
use Rattle.jh_num.proofs.Public.{passed_up}
use Rattle.jh_outside.specs.Ask.{Ask}
use Rattle.jh_outside.specs.Trail.{Asks}
use Rattle.jh_image.specs.Order.{last_ask}
use Rattle.jh_image.proofs.OrderLemmas.{board_asked}
use Rattle.jh_image.specs.Images.{nothing, the_board}
use Rattle.jh_image.specs.Causes.{OnRefused, HasCause}
use Rattle.jh_image.specs.Private.Causes.{IsFileRefusal, IsBoardRefusal}
use Rattle.jh_image.proofs.StopLemmas.{on_refused, unread_stops, board_stops}
use Rattle.jh_image.proofs.read.read_listing.Goals as goal

pub returns-clause-asked_until : goal.returns-clause-asked_until
returns-clause-asked_until g c =
    let board = c.args.board.now in
    let A : Ask → Type 0 = λ ask. Asks g.F.Files c.args.files.now (ask ∷ []) c.read_file.new.files in
    on_refused (IsBoardRefusal board c.in-Err.fault) (λ _ cause. A (last_ask cause board)) c.refused_board.result (board_asked A board board c.in-Err.fault c.in_ok-bytes.ensures.asked) c.refused_board.ensures

pub returns-in_err-bytes-clause-err : goal.returns-in_err-bytes-clause-err
returns-in_err-bytes-clause-err g c =
    let contents = g.F.Files.contents c.args.files.now in
    let board = c.args.board.now in
    passed_up c.from_residual.result c.in_err-bytes.field-0.0 (λ e. OnRefused (HasCause contents board nothing) e) c.from_residual.ensures.1
    (on_refused (IsFileRefusal contents board) (HasCause contents board nothing) c.in_err-bytes.field-0.0 (unread_stops contents board board nothing the_board) c.in_err-bytes.ensures.err)

pub returns-clause-err : goal.returns-clause-err
returns-clause-err g c =
    let contents = g.F.Files.contents c.args.files.now in
    let board = c.args.board.now in
    on_refused (IsBoardRefusal board c.in-Err.fault) (HasCause contents board nothing) c.refused_board.result
    (board_stops contents board _ c.in-Err.fault c.in_ok-bytes.ensures.ok (rw (c.as_slice.ensures.value, c.in-Err.is) at c.read_board.ensures.told)) c.refused_board.ensures
