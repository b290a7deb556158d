-- Command by command.
use Rattle.jh_cli.proofs.GoodLemmas.{good_answered}
use Rattle.jh_cli.proofs.laws.good_inputs_are_answered.Goals as goal

pub returns : goal.returns
returns c = good_answered c.spelling_has_no_fault.ensures c.system_has_no_fault.ensures c.one_system_spelling.ensures c.one_answer.ensures.good_or_bad c.one_answer.ensures.good_or_long
    c.boards_make_one_image.ensures c.boards_that_make_an_image_are_not_refused.ensures
