-- Command by command.
use Rattle.jh_cli.proofs.OutcomeLemmas.{one_outcome}
use Rattle.jh_cli.proofs.laws.words_have_one_outcome.Goals as goal

pub returns : goal.returns
returns c contents request one other serial told h k = one_outcome c.spelling_has_no_fault.ensures c.system_has_no_fault.ensures c.one_spelling.ensures c.one_system_spelling.ensures c.one_answer.ensures.good_or_bad c.one_answer.ensures.good_or_long
    c.texts_go_both_ways.ensures.one c.one_answer.ensures.bad_or_long c.one_answer.ensures.one_line c.boards_make_one_image.ensures c.boards_that_make_an_image_are_not_refused.ensures c.boards_have_one_cause.ensures c.maps_have_one_text.ensures c.pins_have_one_text.ensures
    contents request one other serial told h.outcome k.outcome h.read k.read
