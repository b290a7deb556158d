-- Of all uses those of each cell are its tables, as many as it wants, and its communication page.
use Rattle.std.proofs.Common.{◌≡◌, ◌∙◌, sym, subst, sum_by}
use Rattle.jh_pool.specs.Pages.{PoolView, page_addresses}
use Rattle.jh_edit.specs.Ends.{seat_pages}
use Rattle.jh_edit.specs.Forest.{uses}
use Rattle.jh_edit.proofs.PagesLemmas.{cells_pages}
use Rattle.jh_edit.proofs.forest.cells_take_their_pages.Goals as goal

pub returns : goal.returns
returns c = λ claims stage is forest still.
    let P : PoolView → Type 0 = λ pool. sum_by (uses stage) (page_addresses pool) ≡ sum_by (seat_pages claims) stage.seats.items in
    sym (c.forests_take_their_pages.ensures claims stage is forest)
    ∙ subst P is (cells_pages claims stage (record { forest = forest; still = still; reached = c.reached_pages_are_counted.ensures; counts = c.tables_are_counted_from_the_top.ensures }))
