-- The tables of all cells in one memory: whose each page of the pool is, and what stands, what is led to and what is cached,
-- also while an edit goes on.
use Rattle.std.specs.Prelude.{◌≡◌, ◌≢◌, ℕ, ◌+◌, ◌-◌, ◌*◌, ◌%◌, ◌<◌, ◌≤◌, ◌↔◌, ◌⊎◌, Bool, true, false, ◌&&◌, ◌||◌, not, nat_eq, Contains, AllPairs, length, [], ◌∷◌, sum_by, vec_capacity, Option, Some, None, IsSome, is_some, if◌then◌else◌}
use Rattle.jh_num.specs.declared.address.TheConstants.{ADDRESS_END}
use Rattle.jh_desc.specs.declared.descriptor.Hit.{Hit}
use Rattle.jh_frames.specs.Memory.{FramesView, byte_at, is_own}
use Rattle.jh_pool.specs.Pages.{IsTakenPage, used_of}
use Rattle.jh_cache.specs.declared.translation.Translation.{Translation}
use Rattle.jh_cache.specs.Translations.{translations_of}
use Rattle.jh_walk.specs.Pages.{pages_reached, times}
use Rattle.jh_walk.specs.Walks.{levels, walk_of}
use Rattle.jh_num.specs.declared.rights.Rights.{Rights}
use Rattle.jh_shape.specs.Claims.{Claims}
use Rattle.jh_shape.specs.Grants.{IsGranted}
use Rattle.jh_shape.specs.Pages.{tables_of}
use Rattle.jh_shape.specs.Shapes.{want_of}
use Rattle.jh_shape.specs.SoundClaims.{AreSoundClaims}
use Rattle.jh_edit.specs.declared.stage.CellPart.{CellPart}
use Rattle.jh_edit.specs.declared.stage.CellPart.TheVariants.{Unchanged, Fresh, Build, Remove}
use Rattle.jh_edit.specs.declared.stage.Editing.{Editing}
use Rattle.jh_edit.specs.declared.stage.Seat.{Seat}
use Rattle.jh_edit.specs.declared.stage.Stage2.{Stage2}
use Rattle.jh_edit.specs.declared.stage.Tree.{Tree}
use Rattle.jh_edit.specs.Plans.{EditView, Plans, ahead_count}
use Rattle.jh_edit.specs.Tables.{IsPoolOf, is_ahead, words}
use Rattle.jh_edit.specs.Trees.{Stands, lack_of}

-- ---- seats

-- the cell has a seat
abbrev pub HasSeat : Stage2 → Seat → Type 0
HasSeat stage seat = Contains stage.seats.items seat

-- root is the one that has no communication page
abbrev pub is_root : Seat → Bool
is_root seat = not (is_some seat.comm)

-- ---- edits

-- the turns that are left of the cell's part
abbrev pub part_left : CellPart → ℕ
part_left Unchanged = 0
part_left (Fresh id bound) = bound
part_left (Build id edit) = edit.left
part_left (Remove id edit) = edit.left

-- the turns that are left of both parts
abbrev pub left_of : Editing → ℕ
left_of editing = editing.root.left + part_left editing.cell

-- the part is of a cell that comes, and of that one; and of a cell that goes
abbrev pub is_built : CellPart → ℕ → Bool
is_built Unchanged other = false
is_built (Fresh id bound) other = false
is_built (Build id edit) other = nat_eq id other
is_built (Remove id edit) other = false

abbrev pub is_removed : CellPart → ℕ → Bool
is_removed Unchanged other = false
is_removed (Fresh id bound) other = false
is_removed (Build id edit) other = false
is_removed (Remove id edit) other = nat_eq id other

-- the seat is that of the cell that comes
abbrev pub is_coming : Option Editing → Seat → Bool
is_coming None seat = false
is_coming (Some editing) seat = is_built editing.cell seat.id

-- the tables of the seat are edited: those of root are in each edit
abbrev pub is_edited : Option Editing → Seat → Bool
is_edited None seat = false
is_edited (Some editing) seat = is_root seat || (is_built editing.cell seat.id || is_removed editing.cell seat.id)

-- the cell goes and no turn is left, so its communication page is given back
abbrev pub is_gone : Option Editing → Seat → Bool
is_gone None seat = false
is_gone (Some editing) seat = is_removed editing.cell seat.id && nat_eq (left_of editing) 0

-- ---- pages

-- how often the page is reached from the tree
abbrev pub tree_times : (ℕ → ℕ) → ℕ → Option Tree → ℕ
tree_times word page None = 0
tree_times word page (Some tree) = times word levels tree.table page

-- once where the page is that communication page
abbrev pub comm_times : ℕ → Option ℕ → ℕ
comm_times page None = 0
comm_times page (Some comm) = if nat_eq comm page then 1 else 0

-- once where the page is the one that an edit has taken ahead
abbrev pub ahead_times : ℕ → EditView → ℕ
ahead_times page edit = if is_ahead edit.ahead page then 1 else 0

abbrev pub part_ahead_times : ℕ → CellPart → ℕ
part_ahead_times page Unchanged = 0
part_ahead_times page (Fresh id bound) = 0
part_ahead_times page (Build id edit) = ahead_times page edit
part_ahead_times page (Remove id edit) = 0

-- how often the page is a table of some cell, a communication page, and a page ahead
abbrev pub table_uses : Stage2 → ℕ → ℕ
table_uses stage page = sum_by (λ (seat : Seat). tree_times (words stage.frames) page seat.tree) stage.seats.items

abbrev pub comm_uses : Stage2 → ℕ → ℕ
comm_uses stage page = sum_by (λ (seat : Seat). if is_gone stage.editing seat then 0 else comm_times page seat.comm) stage.seats.items

abbrev pub ahead_uses : Option Editing → ℕ → ℕ
ahead_uses None page = 0
ahead_uses (Some editing) page = ahead_times page editing.root + part_ahead_times page editing.cell

-- how often the page is used
abbrev pub uses : Stage2 → ℕ → ℕ
uses stage page = table_uses stage page + (comm_uses stage page + ahead_uses stage.editing page)

-- ---- what walks find

-- the place lies outside the hypervisor's memory
abbrev pub LeadsOutside : FramesView → Hit → Type 0
LeadsOutside frames hit = is_own frames.own hit.out ≡ false

-- the place lies in the seat's own communication page
abbrev pub LeadsToComm : Seat → Hit → Type 0
LeadsToComm seat hit = seat.comm ≡ Some (hit.out - hit.out % 4096)

-- whatever address a walk of the seat's tables finds, it leads outside the hypervisor's memory, or into the cell's own
-- communication page
abbrev pub IsKeptOut : Stage2 → Seat → Tree → Type 0
IsKeptOut stage seat tree = (at : ℕ) (hit : Hit) → at < ADDRESS_END → walk_of (words stage.frames) levels tree.table at ≡ Some hit → LeadsOutside stage.frames hit ⊎ LeadsToComm seat hit

-- the translation is what a walk finds now in the tables of a cell that lives
pub record IsTrueTranslation (stage : Stage2) (translation : Translation) : Type 0 where
  pub seat : Seat
  pub tree : Tree
  pub sits : HasSeat stage seat
  pub has : seat.tree ≡ Some tree
  pub lives : is_coming stage.editing seat ≡ false
  pub tag : tree.tag ≡ translation.tag
  pub aligned : translation.page % 4096 ≡ 0
  pub found : walk_of (words stage.frames) levels tree.table translation.page ≡ Some translation.hit

-- of a seat and a later one: their ids differ, and the tags of their tables; and the later one isn't root
pub record AreApart (seat other : Seat) : Type 0 where
  pub ids : seat.id ≢ other.id
  pub tags : (tree tree' : Tree) → seat.tree ≡ Some tree → other.tree ≡ Some tree' → tree.tag ≢ tree'.tag
  pub cell : is_root other ≡ false

-- ---- the forest

-- the tables of all cells: each page of the pool has at most one use, and is taken just where it has one; tables that no edit
-- is about stand as the claims of their cell want them; and there is room for 16 cells
pub record IsForest (claims : Seat → Claims) (stage : Stage2) : Type 0 where
  pub inside : IsPoolOf stage.pool stage.frames
  pub once : (page : ℕ) → uses stage page ≤ 1
  pub taken : (page : ℕ) → IsTakenPage stage.pool page ↔ (0 < uses stage page)
  pub trees : (seat : Seat) → HasSeat stage seat → is_edited stage.editing seat ≡ false → IsSome seat.tree
  pub stands : (seat : Seat) (tree : Tree) → HasSeat stage seat → seat.tree ≡ Some tree → is_edited stage.editing seat ≡ false → Stands (want_of (claims seat)) (words stage.frames) levels tree.table 0
  pub outside : (seat : Seat) (tree : Tree) → HasSeat stage seat → seat.tree ≡ Some tree → IsKeptOut stage seat tree
  pub cached : (cpu : ℕ) (translation : Translation) → Contains (translations_of stage.cache cpu) translation → IsTrueTranslation stage translation
  pub apart : AllPairs AreApart stage.seats.items
  pub room : 16 ≤ vec_capacity stage.seats

-- ---- the edit of a call

-- the edit is of the tables of that seat
pub record IsEditOf (stage : Stage2) (edit : EditView) (seat : Seat) : Type 0 where
  pub tree : Tree
  pub sits : HasSeat stage seat
  pub has : seat.tree ≡ Some tree
  pub table : edit.table ≡ tree.table

-- the claims with that communication page
abbrev pub with_comm : Claims → ℕ → Claims
with_comm claims comm = record claims { comm = comm }

-- the claims grant no place of those bytes
pub record GrantsNothingOf (claims : Claims) (base size : ℕ) : Type 0 where
  pub apart : (at place : ℕ) (rights : Rights) (device : Bool) → at < ADDRESS_END → IsGranted claims at place rights device → base ≤ place → place < base + size → ⊥

-- the claims of the cell that comes, wherever its communication page will lie: they are sound, and grant no place of the
-- hypervisor's memory but in that page
pub record IsFitToCome (coming : Claims) (stage : Stage2) : Type 0 where
  pub sound : (comm : ℕ) → comm % 4096 ≡ 0 → comm < ADDRESS_END → AreSoundClaims (with_comm coming comm)
  pub kept : (comm : ℕ) → comm % 4096 ≡ 0 → comm < ADDRESS_END → (at place : ℕ) (rights : Rights) (device : Bool) → at < ADDRESS_END → IsGranted (with_comm coming comm) at place rights device
      → is_own stage.frames.own place ≡ true → place - place % 4096 ≡ comm

-- the part of root plans what the coming claims want of its tables, which are sound and grant no place of the hypervisor's
-- memory
pub record IsRootPart (rootward : Claims) (stage : Stage2) (edit : EditView) : Type 0 where
  pub seat : Seat
  pub root : is_root seat ≡ true
  pub of : IsEditOf stage edit seat
  pub aim : edit.removing ≡ false
  pub plan : Plans edit (want_of rootward) (words stage.frames)
  pub sound : AreSoundClaims rootward
  pub kept : GrantsNothingOf rootward stage.frames.own.base (length stage.frames.own.bytes)

-- no page is the coming cell's yet, and none has its id; two turns are allowed for each table that it wants, which are as many
-- wherever its communication page will lie; it takes a page for each of them, and one more for that
pub record IsFreshPart (coming : Claims) (stage : Stage2) (id bound lack : ℕ) : Type 0 where
  pub allowed : bound ≡ 2 * tables_of coming
  pub new : (seat : Seat) → HasSeat stage seat → seat.id ≢ id
  pub room : length stage.seats.items < 16
  pub fit : IsFitToCome coming stage
  pub lacks : lack ≡ tables_of coming + 1

-- the part plans what the claims of the coming cell want, with the communication page that it has; it takes a page for each
-- table that lacks and isn't ahead
pub record IsBuildPart (coming : Claims) (stage : Stage2) (id : ℕ) (edit : EditView) (lack : ℕ) : Type 0 where
  pub seat : Seat
  pub comm : ℕ
  pub named : seat.id ≡ id
  pub page : seat.comm ≡ Some comm
  pub of : IsEditOf stage edit seat
  pub aim : edit.removing ≡ false
  pub plan : Plans edit (want_of (with_comm coming comm)) (words stage.frames)
  pub fit : IsFitToCome coming stage
  pub lacks : lack + ahead_count edit.ahead ≡ lack_of (want_of (with_comm coming comm)) (words stage.frames) levels edit.table 0

-- the part takes the tables of the cell away; once none is left, the cell has none
pub record IsRemovePart (stage : Stage2) (id : ℕ) (edit : EditView) (lack : ℕ) : Type 0 where
  pub seat : Seat
  pub named : seat.id ≡ id
  pub sits : HasSeat stage seat
  pub cell : is_root seat ≡ false
  pub aim : edit.removing ≡ true
  pub ahead : 0 < edit.left → edit.ahead ≡ None
  pub on : 0 < edit.left → IsEditOf stage edit seat
  pub turns : 0 < edit.left → edit.left ≡ pages_reached (words stage.frames) levels edit.table
  pub over : edit.left ≡ 0 → seat.tree ≡ None
  pub lacks : lack ≡ 0

-- the cell's part, and the pages that it still takes
abbrev pub IsCellPart : Claims → Stage2 → CellPart → ℕ → Type 0
IsCellPart coming stage Unchanged lack = lack ≡ 0
IsCellPart coming stage (Fresh id bound) lack = IsFreshPart coming stage id bound lack
IsCellPart coming stage (Build id edit) lack = IsBuildPart coming stage id edit lack
IsCellPart coming stage (Remove id edit) lack = IsRemovePart stage id edit lack

-- an edit is under way, from the tables as they are to the claims that root and the coming cell will have, and the pool has
-- the pages for it
pub record IsEdit (rootward coming : Claims) (stage : Stage2) (editing : Editing) : Type 0 where
  pub lack : ℕ
  pub root : IsRootPart rootward stage editing.root
  pub cell : IsCellPart coming stage editing.cell lack
  pub enough : lack_of (want_of rootward) (words stage.frames) levels editing.root.table 0 + (lack + used_of stage.pool) ≤ stage.pool.size + ahead_count editing.root.ahead

-- ---- writes of guests

-- memory after a write: of the hypervisor's bytes those alone differ that lie in a communication page
pub record WritesNoTable (stage : Stage2) (after : FramesView) : Type 0 where
  pub base : after.own.base ≡ stage.frames.own.base
  pub size : length after.own.bytes ≡ length stage.frames.own.bytes
  pub bytes : (place : ℕ) → is_own stage.frames.own place ≡ true → comm_uses stage (place - place % 4096) ≡ 0 → byte_at after place ≡ byte_at stage.frames place

-- the same tables with that memory
abbrev pub with_frames : Stage2 → FramesView → Stage2
with_frames stage after = record stage { frames = after }

-- ---- opening

-- root, with the id, has its tables, with the tag 0, and no other cell has a seat; no edit is under way
pub record IsLoneRoot (id : ℕ) (stage : Stage2) : Type 0 where
  pub table : ℕ
  pub seats : stage.seats.items ≡ record { id = id; comm = None; tree = Some (record { table = table; tag = 0 }) } ∷ []
  pub still : stage.editing ≡ None
