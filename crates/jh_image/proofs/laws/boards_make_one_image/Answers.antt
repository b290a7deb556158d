-- One file after another, in the order of reading.
use Rattle.jh_image.proofs.ReadLemmas.{image_one}
use Rattle.jh_image.proofs.laws.boards_make_one_image.Goals as goal

pub returns : goal.returns
returns c = image_one c.one_system_spelling.ensures c.system_has_no_fault.ensures
