-- Which places are cut is told by the regions of the cells alone, so that neither has more tables.
use Rattle.jh_shape.proofs.BesideLemmas.{live_alike, same_pages, same_tables}
use Rattle.jh_shape.proofs.laws.marks_change_no_table.Goals as goal

pub returns : goal.returns
returns c = record { tables = same_tables; pages = same_pages; live = live_alike }
