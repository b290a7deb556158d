-- A fresh page is written whole.
use Rattle.jh_board.proofs.page.change_words.Goals as goal

pub returns-in-Fresh-clause-bytes : goal.returns-in-Fresh-clause-bytes
returns-in-Fresh-clause-bytes c = rw c.in-Fresh.is c.fresh.ensures
