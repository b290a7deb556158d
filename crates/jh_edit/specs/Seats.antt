-- The seats of cells, as a call finds them.
use Rattle.std.specs.Prelude.{ℕ, Bool, false, nat_eq, List, find, Option, Some, None}
use Rattle.std.specs.List.{list_any}
use Rattle.jh_edit.specs.declared.stage.Seat.{Seat}
use Rattle.jh_edit.specs.declared.stage.Tree.{Tree}
use Rattle.jh_edit.specs.Forest.{is_root}

-- the seat is that of the cell with the id
abbrev pub is_seat_of : ℕ → Seat → Bool
is_seat_of id seat = nat_eq seat.id id

-- the tables that the seat has, and its communication page, where there is a seat
abbrev pub tree_in : Option Seat → Option Tree
tree_in None = None
tree_in (Some seat) = seat.tree

abbrev pub comm_in : Option Seat → Option ℕ
comm_in None = None
comm_in (Some seat) = seat.comm

-- the tables of root
abbrev pub root_tree : List Seat → Option Tree
root_tree seats = tree_in (find is_root seats)

-- the tables of the cell with the id, and its communication page
abbrev pub cell_tree : ℕ → List Seat → Option Tree
cell_tree id seats = tree_in (find (is_seat_of id) seats)

abbrev pub cell_comm : ℕ → List Seat → Option ℕ
cell_comm id seats = comm_in (find (is_seat_of id) seats)

-- the tables have the tag
abbrev pub has_tag : ℕ → Option Tree → Bool
has_tag tag None = false
has_tag tag (Some tree) = nat_eq tree.tag tag

-- some seat's tables have the tag
abbrev pub is_tag_used : ℕ → List Seat → Bool
is_tag_used tag seats = list_any (λ (seat : Seat). has_tag tag seat.tree) seats
