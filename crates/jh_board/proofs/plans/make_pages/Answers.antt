-- What is planned is made, and then a page is written.
use Rattle.std.proofs.Common.{◌∙◌, Option, sym, ap}
use Rattle.jh_history.specs.declared.comm.PageWrite.{PageWrite}
use Rattle.jh_history.specs.Pages.{with_page_write}
use Rattle.jh_board.specs.Pages.{byte_of}
use Rattle.jh_board.proofs.ChangedLemmas.{page_planned, seat_planned, unwritten_planned}
use Rattle.jh_board.proofs.TablesLemmas.{forest_kept}
use Rattle.jh_board.proofs.plans.make_pages.Goals as goal

pub change_page-requires : goal.change_page-requires
change_page-requires c = seat_planned c.args.planned c.args.memory.now c.make_tables.new.memory c.args.write c.in-Some.write c.in-Some.is c.requires.page c.make_tables.ensures.held c.make_tables.ensures.come

pub returns-in-Some-clause-bytes : goal.returns-in-Some-clause-bytes
returns-in-Some-clause-bytes c = λ q lasts.
    let old = c.args.memory.now in
    c.change_page.ensures.bytes q ∙ page_planned c.args.planned old c.make_tables.new.memory c.args.write c.in-Some.write c.in-Some.is c.requires.page c.make_tables.ensures.bytes q
    ∙ ap (λ (o : Option PageWrite). with_page_write o (byte_of old) q) (sym c.in-Some.is)

pub returns-in-Some-clause-forest : goal.returns-in-Some-clause-forest
returns-in-Some-clause-forest c = λ claims forest.
    forest_kept c.a_write_outside_tables_keeps_the_forest.ensures.forest _ c.make_tables.new.memory c.change_page.new.self c.change_page.ensures.tables (c.make_tables.ensures.forest claims forest)

pub returns-in_default-clause-bytes : goal.returns-in_default-clause-bytes
returns-in_default-clause-bytes c = λ q lasts.
    let old = c.args.memory.now in
    c.make_tables.ensures.bytes q (unwritten_planned c.args.planned old c.args.write q c.in_default.is c.requires.page lasts)
    ∙ ap (λ (o : Option PageWrite). with_page_write o (byte_of old) q) (sym c.in_default.is)
