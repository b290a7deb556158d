-- A page ahead takes two turns more, so none is left only where no page is ahead.
use Rattle.std.proofs.Common.{refl}
use Rattle.jh_edit.proofs.EndLemmas.{edit_ends}
use Rattle.jh_edit.proofs.laws.a_finished_edit_stands.Goals as goal

pub returns-clause-ahead : goal.returns-clause-ahead
returns-clause-ahead c = λ edit want word aim plans none. (edit_ends edit want word aim plans none).none

pub returns-clause-stands : goal.returns-clause-stands
returns-clause-stands c = λ edit want word pages aim plans none. c.where_nothing_is_left_tables_stand.ensures.stand want word 3 edit.table 0 pages refl (edit_ends edit want word aim plans none).turns
