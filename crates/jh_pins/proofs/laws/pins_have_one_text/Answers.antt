-- By the runs of each cell, and the clashes.
use Rattle.jh_history.specs.History.{facts}
use Rattle.jh_shape.specs.Lives.{all_cells}
use Rattle.jh_pins.specs.After.{live_table}
use Rattle.jh_pins.proofs.AlikeLemmas.{same_text}
use Rattle.jh_pins.proofs.laws.pins_have_one_text.Goals as goal

pub returns : goal.returns
returns c image form entries = same_text (live_table image form entries) (all_cells image.system.root (facts image form entries).cells)
