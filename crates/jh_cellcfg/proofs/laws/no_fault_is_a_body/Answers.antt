-- The header is taken from the front, and behind it as many records as its counts say.
use Rattle.jh_cellcfg.proofs.SpelledCells.{body_found, all_bytes}
use Rattle.jh_cellcfg.proofs.laws.no_fault_is_a_body.Goals as goal

pub returns : goal.returns
returns c = λ front body each long none. body_found front body (all_bytes body each) long none
