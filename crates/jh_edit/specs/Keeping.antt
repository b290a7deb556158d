-- What the edit of a call keeps of all cells: guests' bytes, communication pages, and who has a seat.
use Rattle.std.specs.Prelude.{◌≡◌, ℕ, ◌+◌, ◌<◌, not, nat_eq, length, map, filter, List, [], ◌∷◌, ◌++◌, Option, Some}
use Rattle.jh_frames.specs.Memory.{byte_at}
use Rattle.jh_edit.specs.declared.stage.CellPart.{CellPart}
use Rattle.jh_edit.specs.declared.stage.CellPart.TheVariants.{Unchanged, Fresh, Build, Remove}
use Rattle.jh_edit.specs.declared.stage.Editing.{Editing}
use Rattle.jh_edit.specs.declared.stage.Seat.{Seat}
use Rattle.jh_edit.specs.declared.stage.Stage2.{Stage2}
use Rattle.jh_edit.specs.Forest.{HasSeat}

-- a cell that has a seat: its id, and its communication page
pub record Sitter : Type 0 where
  pub id : ℕ
  pub comm : Option ℕ

abbrev pub sitter : Seat → Sitter
sitter seat = record { id = seat.id; comm = seat.comm }

-- the cells that have a seat, in order
abbrev pub sitters : Stage2 → List Sitter
sitters stage = map sitter stage.seats.items

-- bytes of guests and of communication pages are the same, and so are the ranges of memory and of the pool
pub record KeepsCells (old new : Stage2) : Type 0 where
  pub guests : new.frames.guest ≡ old.frames.guest
  pub base : new.frames.own.base ≡ old.frames.own.base
  pub size : length new.frames.own.bytes ≡ length old.frames.own.bytes
  pub pool_base : new.pool.base ≡ old.pool.base
  pub pool_size : new.pool.size ≡ old.pool.size
  pub comms : (seat : Seat) (comm k : ℕ) → HasSeat old seat → seat.comm ≡ Some comm → k < 4096 → byte_at new.frames (comm + k) ≡ byte_at old.frames (comm + k)

-- a cell that had no page yet has a seat now, behind all others
pub record SeatsOneMore (editing : Editing) (old new : Stage2) : Type 0 where
  pub id : ℕ
  pub bound : ℕ
  pub comm : ℕ
  pub part : editing.cell ≡ Fresh id bound
  pub sitters : sitters new ≡ sitters old ++ record { id = id; comm = Some comm } ∷ []

-- the cells that have a seat once the edit is closed: all but one that goes
abbrev pub sitters_left : CellPart → List Sitter → List Sitter
sitters_left Unchanged sitters = sitters
sitters_left (Fresh id bound) sitters = sitters
sitters_left (Build id edit) sitters = sitters
sitters_left (Remove id edit) sitters = filter (λ (one : Sitter). not (nat_eq one.id id)) sitters
