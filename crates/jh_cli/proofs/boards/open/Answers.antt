-- The board's files make no image, and the call ends there.
use Rattle.jh_cli.proofs.BoardLemmas.{ends_at}
use Rattle.jh_cli.proofs.OrderLemmas.{stops_in_board}
use Rattle.jh_cli.proofs.boards.open.Goals as goal

pub returns-in-Err-clause-asked_until : goal.returns-in-Err-clause-asked_until
returns-in-Err-clause-asked_until g c =
    stops_in_board g.F.Files (g.F.Files.contents c.args.files.now) c.args.board.now c.args.files.now c.read_image.new.files c.in-Err.fault
    (rw c.in-Err.is at c.read_image.ensures.asked_until) c.unopened.result c.unopened.ensures.refused c.unopened.ensures.memory

pub returns-in-Err-clause-err : goal.returns-in-Err-clause-err
returns-in-Err-clause-err g c = ends_at (g.F.Files.contents c.args.files.now) c.args.board.now c.in-Err.fault (rw c.in-Err.is at c.read_image.ensures.answers) c.unopened.result c.unopened.ensures.refused c.unopened.ensures.memory
