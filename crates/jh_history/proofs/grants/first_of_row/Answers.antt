-- The region that is found gives the whole page.
use Rattle.std.proofs.Common.{sym, arith}
use Rattle.jh_history.proofs.GrantLemmas.{region_of_has, places_from_page, places_from_page_none}
use Rattle.jh_history.proofs.grants.first_of_row.Goals as goal

pub place_in_cell-requires-clause-has : goal.place_in_cell-requires-clause-has
place_in_cell-requires-clause-has g c = region_of_has (g.G.Grants.regions c.args.grants.now c.args.cell) c.args.access c.args.at c.in-Some.region (sym c.in-Some.ensures.found)

pub returns-in-Some-clause-places : goal.returns-in-Some-clause-places
returns-in-Some-clause-places g c =
    rw c.place_in_cell.ensures.place (sym (places_from_page c.args.cell (g.G.Grants.regions c.args.grants.now c.args.cell) c.args.access c.args.at c.args.count c.in-Some.region c.requires.page (sym c.in-Some.ensures.found)))

pub returns-in-None-clause-places : goal.returns-in-None-clause-places
returns-in-None-clause-places g c =
    sym (places_from_page_none c.args.cell (g.G.Grants.regions c.args.grants.now c.args.cell) c.args.access c.args.at c.args.count (omega arith) (sym c.in-None.ensures.found))
