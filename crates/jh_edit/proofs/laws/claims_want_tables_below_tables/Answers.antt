-- Level by level, by the law of wants.
use Rattle.jh_edit.proofs.laws.claims_want_tables_below_tables.Goals as goal

pub returns : goal.returns
returns c = λ claims level start some begins wanted. c.tables_stand_below_tables.ensures claims level start some begins wanted
