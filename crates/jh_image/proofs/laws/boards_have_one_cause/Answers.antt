-- Both stop at the last stage, and what follows that is one.
use Rattle.jh_image.proofs.CauseLemmas.{causes_one}
use Rattle.jh_image.proofs.laws.boards_have_one_cause.Goals as goal

pub returns : goal.returns
returns c = causes_one c.one_system_spelling.ensures c.system_has_no_fault.ensures
