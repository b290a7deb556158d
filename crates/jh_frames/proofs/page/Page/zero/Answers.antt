-- A new page is zeros.
use Rattle.jh_num.proofs.Public.{get_or_same}
use Rattle.jh_frames.proofs.page.Page.zero.Goals as goal

pub returns-clause-zeros : goal.returns-clause-zeros
returns-clause-zeros c = λ k. get_or_same 4096 k 0
