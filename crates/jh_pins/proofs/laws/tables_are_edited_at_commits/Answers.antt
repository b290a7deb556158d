-- Entry by entry.
use Rattle.jh_pins.proofs.EditLemmas.{edited_live}
use Rattle.jh_pins.proofs.laws.tables_are_edited_at_commits.Goals as goal

pub returns : goal.returns
returns c = edited_live
