-- What was found for the cell is of the cell.
use Rattle.jh_board.proofs.IndexLemmas.{found_at}
use Rattle.jh_board.proofs.indexed.IndexedImage.index_of.Goals as goal

pub returns-then-program-id : goal.returns-then-program-id
returns-then-program-id c =
    found_at c.args.self.now c.args.cells.now.lives c.args.found.now c.from.result c.args.cpu c.args.id (record { owner = 0; index = 0 }) c.told-found c.requires c.from.ensures c.if-program-id.true
