-- Neither shapes nor counts ask where the communication page is.
use Rattle.std.proofs.Common.{refl}
use Rattle.jh_shape.specs.Pages.{tables_at, tables_of}
use Rattle.jh_shape.proofs.laws.the_communication_page_changes_no_count.Goals as goal

pub returns-clause-tables : goal.returns-clause-tables
returns-clause-tables c = λ level start. refl

pub returns-clause-pages : goal.returns-clause-pages
unfolding tables_of tables_at
returns-clause-pages c = refl
