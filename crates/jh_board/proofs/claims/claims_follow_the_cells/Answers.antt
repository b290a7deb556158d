-- Each seat's cell is found among the cells after the call.
use Rattle.jh_board.proofs.SeatClaimLemmas.{claims_created, claims_left, claims_marked}
use Rattle.jh_board.proofs.claims.claims_follow_the_cells.Goals as goal

pub returns : goal.returns
returns c = record { created = claims_created; marked = claims_marked; left = claims_left }
