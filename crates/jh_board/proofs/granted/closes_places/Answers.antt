-- Of physical memory the closed places are kept, of a communication page none.
use Rattle.jh_board.proofs.GrantedLemmas.{kept_run, kept_pages}
use Rattle.jh_board.proofs.granted.closes_places.Goals as goal

pub returns-in-Physical : goal.returns-in-Physical
returns-in-Physical c = λ i. rw c.in-Physical.is (kept_run i c.args.cells.now.lives c.in-Physical.start c.args.count c.from.result c.closes.result c.from.ensures c.closes.ensures)

pub returns-in-Page : goal.returns-in-Page
returns-in-Page c = λ i. rw c.in-Page.is (kept_pages i c.args.cells.now.lives c.in-Page.cell c.in-Page.offset c.args.count)
