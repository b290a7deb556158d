-- Each cause but one contradicts the image.
use Rattle.jh_image.proofs.CauseLemmas.{unrefused}
use Rattle.jh_image.proofs.laws.boards_that_make_an_image_are_not_refused.Goals as goal

pub returns : goal.returns
returns c = unrefused c.one_system_spelling.ensures c.system_has_no_fault.ensures
