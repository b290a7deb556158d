-- Each cell has one map.
use Rattle.jh_history.specs.History.{facts}
use Rattle.jh_shape.specs.Lives.{all_cells}
use Rattle.jh_run.proofs.MapsLemmas.{one_text}
use Rattle.jh_run.proofs.laws.maps_have_one_text.Goals as goal

pub returns : goal.returns
returns c image form entries one other is is_other = one_text c.maps_of_one_cell_are_equal.ensures image (facts image form entries).cells (all_cells image.system.root (facts image form entries).cells) one other is is_other
