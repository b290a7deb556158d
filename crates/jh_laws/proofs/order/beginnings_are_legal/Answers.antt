-- By the parts of a legal journal.
use Rattle.jh_history.proofs.Public.{IsLegal_begin}
use Rattle.jh_laws.proofs.order.beginnings_are_legal.Goals as goal

pub returns : goal.returns
returns c = IsLegal_begin
