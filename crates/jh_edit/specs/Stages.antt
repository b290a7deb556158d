-- What one turn of an edit does to the tables of all cells, by the part that has the turn.
use Rattle.std.specs.Prelude.{◌≡◌, ◌≢◌, ℕ, ◌+◌, ◌*◌, ◌<◌, ◌≤◌, ◌↔◌, ◌⊎◌, ◌||◌, true, false, nat_eq, length, [], ◌∷◌, ◌++◌, map, sum_by, vec_capacity, Some, None, if◌then◌else◌}
use Rattle.jh_desc.specs.declared.descriptor.Hit.{Hit}
use Rattle.jh_frames.specs.Memory.{byte_at}
use Rattle.jh_pool.specs.Pages.{IsTakenPage, is_free, used_of}
use Rattle.jh_cache.specs.Translations.{flushed}
use Rattle.jh_walk.specs.Pages.{Grows}
use Rattle.jh_walk.specs.Walks.{levels, walk_of}
use Rattle.jh_shape.specs.Claims.{Claims}
use Rattle.jh_shape.specs.Shapes.{want_of}
use Rattle.jh_shape.specs.Wanted.{Wants}
use Rattle.jh_edit.specs.declared.stage.CellPart.TheVariants.{Fresh, Build, Remove}
use Rattle.jh_edit.specs.declared.stage.Editing.{Editing}
use Rattle.jh_edit.specs.declared.stage.Seat.{Seat}
use Rattle.jh_edit.specs.declared.stage.Stage2.{Stage2}
use Rattle.jh_edit.specs.declared.stage.Tree.{Tree}
use Rattle.jh_edit.specs.Forest.{HasSeat, IsEditOf, comm_times, is_gone, is_root, with_comm}
use Rattle.jh_edit.specs.Plans.{EditView, Plans, ahead_count}
use Rattle.jh_edit.specs.Tables.{AreTables, IsPoolOf, is_mine, is_over, words}
use Rattle.jh_edit.specs.Trees.{lack_of, walked}
use Rattle.jh_edit.specs.Turns.{Breaks, KeepsRight, LeavesAlone, turns_of}

-- ---- a cell that is gone

-- how often the page is the communication page of a cell that is gone
abbrev pub gone_uses : Stage2 → ℕ → ℕ
gone_uses stage page = sum_by (λ (seat : Seat). if is_gone stage.editing seat then comm_times page seat.comm else 0) stage.seats.items

-- the seat once the cell of that id has no tables any more
abbrev pub untreed : ℕ → Seat → Seat
untreed id seat = if nat_eq seat.id id then record seat { tree = None } else seat

-- ---- one turn of the tables of one cell

-- a turn of the edit of one cell's tables, whose translations have the tag; where it is the last one of a removal, the
-- communication page of the cell that is gone is given back with it
pub record IsTreeTurn (want : Wants) (tag : ℕ) (edit edit' : EditView) (old new : Stage2) : Type 0 where
  pub left : edit'.left + 1 ≡ edit.left
  pub table : edit'.table ≡ edit.table
  pub aim : edit'.removing ≡ edit.removing
  pub plan : is_over edit' ≡ false → Plans edit' want (words new.frames)
  pub tables : AreTables new.frames edit'.table
  pub one_page : (page : ℕ) × (((is_mine edit (words old.frames) page || is_mine edit' (words new.frames) page) ≡ true) × ((q : ℕ) → (q < page) ⊎ (page + 4096 ≤ q) → byte_at new.frames q ≡ byte_at old.frames q))
  pub breaks : Breaks (words old.frames) (words new.frames) levels edit.table
  pub cache : (new.cache ≡ map (flushed tag) old.cache) ⊎ ((new.cache ≡ old.cache) × (Grows (words old.frames) (words new.frames) levels edit.table × ((page : ℕ) → is_mine edit (words old.frames) page ≡ true → is_mine edit' (words new.frames) page ≡ true)))
  pub leaves : (at : ℕ) (hit : Hit) → walk_of (words new.frames) levels edit.table at ≡ Some hit
      → (walk_of (words old.frames) levels edit.table at ≡ Some hit) ⊎ ((edit.removing ≡ false) × (walked want levels 0 at ≡ Some hit))
  pub right : edit.removing ≡ false → KeepsRight want (words old.frames) (words new.frames) levels edit.table 0
  pub left_alone : edit.removing ≡ false → LeavesAlone want (words old.frames) (words new.frames) levels edit.table 0
  pub pages : (page : ℕ) → IsTakenPage new.pool page ↔ (((IsTakenPage old.pool page × (is_mine edit (words old.frames) page ≡ false)) ⊎ (is_mine edit' (words new.frames) page ≡ true)) × (gone_uses new page ≡ 0))
  pub fresh : (page : ℕ) → is_mine edit' (words new.frames) page ≡ true → is_mine edit (words old.frames) page ≡ false → is_free old.pool page ≡ true
  pub room : edit.removing ≡ false
      → lack_of want (words new.frames) levels edit.table 0 + used_of new.pool + ahead_count edit.ahead ≤ lack_of want (words old.frames) levels edit.table 0 + used_of old.pool + ahead_count edit'.ahead
  pub given : edit.removing ≡ true → used_of new.pool + 1 ≤ used_of old.pool
  pub pool : IsPoolOf new.pool new.frames
  pub guests : new.frames.guest ≡ old.frames.guest
  pub base : new.frames.own.base ≡ old.frames.own.base
  pub size : length new.frames.own.bytes ≡ length old.frames.own.bytes

-- ---- one turn of an edit

-- a turn of root's part
pub record IsRootTurn (rootward : Claims) (editing editing' : Editing) (old new : Stage2) : Type 0 where
  pub seat : Seat
  pub root : is_root seat ≡ true
  pub of : IsEditOf old editing.root seat
  pub turn : IsTreeTurn (want_of rootward) of.tree.tag editing.root editing'.root old new
  pub cell : editing'.cell ≡ editing.cell
  pub seats : new.seats ≡ old.seats
  pub now : new.editing ≡ Some editing'

-- a turn of the tables of the cell that comes
pub record IsBuildTurn (coming : Claims) (id : ℕ) (edit edit' : EditView) (editing editing' : Editing) (old new : Stage2) : Type 0 where
  pub seat : Seat
  pub comm : ℕ
  pub named : seat.id ≡ id
  pub page : seat.comm ≡ Some comm
  pub of : IsEditOf old edit seat
  pub turn : IsTreeTurn (want_of (with_comm coming comm)) of.tree.tag edit edit' old new
  pub was : editing.cell ≡ Build id edit
  pub cell : editing'.cell ≡ Build id edit'
  pub root : editing'.root ≡ editing.root
  pub seats : new.seats ≡ old.seats
  pub now : new.editing ≡ Some editing'

-- a turn of the removal of the tables of the cell that goes; after the last one it has none
pub record IsRemoveTurn (want : Wants) (id : ℕ) (edit edit' : EditView) (editing editing' : Editing) (old new : Stage2) : Type 0 where
  pub seat : Seat
  pub named : seat.id ≡ id
  pub of : IsEditOf old edit seat
  pub turn : IsTreeTurn want of.tree.tag edit edit' old new
  pub was : editing.cell ≡ Remove id edit
  pub cell : editing'.cell ≡ Remove id edit'
  pub root : editing'.root ≡ editing.root
  pub on : 0 < edit'.left → new.seats.items ≡ old.seats.items
  pub over : edit'.left ≡ 0 → new.seats.items ≡ map (untreed id) old.seats.items
  pub capacity : vec_capacity new.seats ≡ vec_capacity old.seats
  pub now : new.editing ≡ Some editing'

-- the turn in which the coming cell gets its communication page and its first table, in which nothing stands, and a tag that
-- no other tables have
pub record IsFreshTurn (coming : Claims) (id bound : ℕ) (edit' : EditView) (editing editing' : Editing) (old new : Stage2) : Type 0 where
  pub comm : ℕ
  pub table : ℕ
  pub tag : ℕ
  pub comm_free : is_free old.pool comm ≡ true
  pub table_free : is_free old.pool table ≡ true
  pub apart : comm ≢ table
  pub comm_taken : IsTakenPage new.pool comm
  pub table_taken : IsTakenPage new.pool table
  pub others : (q : ℕ) → q ≢ comm → q ≢ table → is_free new.pool q ≡ is_free old.pool q
  pub used : used_of new.pool ≡ used_of old.pool + 2
  pub pool_base : new.pool.base ≡ old.pool.base
  pub pool_size : new.pool.size ≡ old.pool.size
  pub outside : (q : ℕ) → (q < table) ⊎ (table + 4096 ≤ q) → byte_at new.frames q ≡ byte_at old.frames q
  pub zero : (slot : ℕ) → slot < 512 → words new.frames (table + 8 * slot) ≡ 0
  pub guests : new.frames.guest ≡ old.frames.guest
  pub base : new.frames.own.base ≡ old.frames.own.base
  pub size : length new.frames.own.bytes ≡ length old.frames.own.bytes
  pub cache : new.cache ≡ old.cache
  pub new_tag : (seat : Seat) (tree : Tree) → HasSeat old seat → seat.tree ≡ Some tree → tree.tag ≢ tag
  pub seats : new.seats.items ≡ old.seats.items ++ record { id = id; comm = Some comm; tree = Some (record { table = table; tag = tag }) } ∷ []
  pub capacity : vec_capacity new.seats ≡ vec_capacity old.seats
  pub first : edit'.table ≡ table
  pub aim : edit'.removing ≡ false
  pub ahead : edit'.ahead ≡ None
  pub left : edit'.left ≡ turns_of (want_of (with_comm coming comm)) (words new.frames) levels table 0
  pub plan : Plans edit' (want_of (with_comm coming comm)) (words new.frames)
  pub was : editing.cell ≡ Fresh id bound
  pub cell : editing'.cell ≡ Build id edit'
  pub root : editing'.root ≡ editing.root
  pub now : new.editing ≡ Some editing'
