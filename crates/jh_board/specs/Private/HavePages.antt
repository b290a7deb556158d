-- That the pool of a memory has the pages which an edit takes.
use Rattle.std.specs.Prelude.{◌≡◌, ◌+◌, ◌≤◌, true, sum_by, Some, None}
use Rattle.jh_pool.specs.Pages.{used_of}
use Rattle.jh_walk.specs.Walks.{levels}
use Rattle.jh_shape.specs.Claims.{Claims}
use Rattle.jh_shape.specs.Pages.{tables_of}
use Rattle.jh_shape.specs.Shapes.{want_of}
use Rattle.jh_edit.specs.declared.stage.CellPart.{CellPart}
use Rattle.jh_edit.specs.declared.stage.Seat.{Seat}
use Rattle.jh_edit.specs.declared.stage.Stage2.{Stage2}
use Rattle.jh_edit.specs.declared.stage.Tree.{Tree}
use Rattle.jh_edit.specs.Ends.{claims_after, seat_pages}
use Rattle.jh_edit.specs.Forest.{is_root, HasSeat, IsForest}
use Rattle.jh_edit.specs.Tables.{words}
use Rattle.jh_edit.specs.Trees.{lack_of, WantsItsTables}

-- where root wants all tables that it had, and the pool has as many pages as the cells have after a create, with those of the
-- cell that comes, it has those that the edit takes
abbrev pub HavePagesToCreate : Stage2 → Type 0
HavePagesToCreate stage =
    (claims : Seat → Claims) (rootward coming : Claims) (root : Seat) (tree : Tree) → stage.editing ≡ None → IsForest claims stage
    → HasSeat stage root → is_root root ≡ true → root.tree ≡ Some tree → WantsItsTables (want_of (claims root)) (want_of rootward)
    → sum_by (seat_pages (claims_after rootward coming CellPart.Unchanged claims)) stage.seats.items + (tables_of coming + 1) ≤ stage.pool.size
    → lack_of (want_of rootward) (words stage.frames) levels tree.table 0 + ((tables_of coming + 1) + used_of stage.pool) ≤ stage.pool.size

-- where root wants no table more, it has those that the edit takes where no cell comes
abbrev pub HavePagesElse : Stage2 → Type 0
HavePagesElse stage =
    (claims : Seat → Claims) (rootward : Claims) (root : Seat) (tree : Tree) → stage.editing ≡ None → IsForest claims stage
    → HasSeat stage root → root.tree ≡ Some tree → WantsItsTables (want_of rootward) (want_of (claims root))
    → lack_of (want_of rootward) (words stage.frames) levels tree.table 0 + used_of stage.pool ≤ stage.pool.size
