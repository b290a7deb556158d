-- How the edit of a call begins, and what it leaves of the tables of all cells.
use Rattle.std.specs.Prelude.{◌≡◌, ℕ, ◌+◌, ◌<◌, ◌≤◌, true, false, not, nat_eq, vec_capacity, List, filter, Option, Some, None, if◌then◌else◌}
use Rattle.jh_shape.specs.Claims.{Claims}
use Rattle.jh_shape.specs.Pages.{tables_of}
use Rattle.jh_edit.specs.declared.stage.CellPart.{CellPart}
use Rattle.jh_edit.specs.declared.stage.CellPart.TheVariants.{Unchanged, Fresh, Build, Remove}
use Rattle.jh_edit.specs.declared.stage.Editing.{Editing}
use Rattle.jh_edit.specs.declared.stage.Seat.{Seat}
use Rattle.jh_edit.specs.declared.stage.Stage2.{Stage2}
use Rattle.jh_edit.specs.Forest.{is_built, is_removed, is_root, left_of, with_comm}

-- ---- the end

-- the seats that the call leaves: a cell that goes has none
abbrev pub seats_left : CellPart → List Seat → List Seat
seats_left Unchanged seats = seats
seats_left (Fresh id bound) seats = seats
seats_left (Build id edit) seats = seats
seats_left (Remove id edit) seats = filter (λ (seat : Seat). not (nat_eq seat.id id)) seats

-- the claims of a cell that came, with the communication page that it got
abbrev pub came : Claims → Option ℕ → Claims
came coming None = coming
came coming (Some comm) = with_comm coming comm

-- the claims of each cell after the call: those that root gets, those of the cell that came, and for all others the same
abbrev pub claims_after : Claims → Claims → CellPart → (Seat → Claims) → Seat → Claims
claims_after rootward coming part claims seat =
    if is_root seat then rootward else if is_built part seat.id then came coming seat.comm else claims seat

-- after the call no edit is under way, and a cell that goes has no seat; all else is the same
pub record IsClosed (editing : Editing) (old new : Stage2) : Type 0 where
  pub frames : new.frames ≡ old.frames
  pub pool : new.pool ≡ old.pool
  pub cache : new.cache ≡ old.cache
  pub seats : new.seats.items ≡ seats_left editing.cell old.seats.items
  pub room : vec_capacity old.seats ≤ vec_capacity new.seats
  pub still : new.editing ≡ None

-- ---- the beginning

-- an edit that was just planned: no page is ahead, no table of a cell that comes is made, and a cell that goes has turns left
pub record IsJustPlanned (editing : Editing) : Type 0 where
  pub bare : editing.root.ahead ≡ None
  pub unmade : (id : ℕ) → is_built editing.cell id ≡ false
  pub going : (id : ℕ) → is_removed editing.cell id ≡ true → 0 < left_of editing

-- ---- pages

-- the pages of a cell with those claims: its tables, and a communication page but for root
abbrev pub seat_pages : (Seat → Claims) → Seat → ℕ
seat_pages claims seat = tables_of (claims seat) + (if is_root seat then 0 else 1)
