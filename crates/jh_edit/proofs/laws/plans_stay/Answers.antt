-- What is counted, reached and done is told by the words of pages that are reached.
use Rattle.jh_edit.proofs.PlanLemmas.{plan_stays}
use Rattle.jh_edit.proofs.laws.plans_stay.Goals as goal

pub returns : goal.returns
returns c = λ edit want word word' same words plans. plan_stays c.walks_read_their_pages.ensures.counts edit want word word' same words plans
