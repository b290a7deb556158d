-- The first that names it, root last.
use Rattle.jh_pins.proofs.LawLemmas.{first_holds, root_holds}
use Rattle.jh_pins.proofs.laws.root_holds_what_no_cell_names.Goals as goal

pub returns-clause-first : goal.returns-clause-first
returns-clause-first c = first_holds

pub returns-clause-root : goal.returns-clause-root
returns-clause-root c = root_holds
