-- What a call does to cells, and what is asked where its edit is planned.
use Rattle.std.specs.Prelude.{◌≡◌, ◌≢◌, ℕ, ◌+◌, ◌*◌, ◌<◌, ◌≤◌, true, false, length, Option, None, Some}
use Rattle.jh_pool.specs.Pages.{used_of}
use Rattle.jh_walk.specs.Walks.{levels}
use Rattle.jh_shape.specs.Claims.{Claims}
use Rattle.jh_shape.specs.Pages.{tables_of}
use Rattle.jh_shape.specs.Shapes.{want_of}
use Rattle.jh_shape.specs.SoundClaims.{AreSoundClaims}
use Rattle.jh_edit.specs.declared.planning.Planned.{Planned}
use Rattle.jh_edit.specs.declared.planning.Planned.TheVariants.{Unchanged, Create, Destroy}
use Rattle.jh_edit.specs.declared.stage.CellPart.{CellPart}
use Rattle.jh_edit.specs.declared.stage.CellPart.TheVariants.{Unchanged as NoPart, Fresh, Build, Remove}
use Rattle.jh_edit.specs.declared.stage.Seat.{Seat}
use Rattle.jh_edit.specs.declared.stage.Stage2.{Stage2}
use Rattle.jh_edit.specs.declared.stage.Tree.{Tree}
use Rattle.jh_edit.specs.Forest.{GrantsNothingOf, HasSeat, IsFitToCome, IsForest, is_root}
use Rattle.jh_edit.specs.Plans.{EditView}
use Rattle.jh_edit.specs.Tables.{words}
use Rattle.jh_edit.specs.Trees.{lack_of}

-- root has tables
pub record HasRoot (stage : Stage2) : Type 0 where
  pub seat : Seat
  pub tree : Tree
  pub sits : HasSeat stage seat
  pub root : is_root seat ≡ true
  pub has : seat.tree ≡ Some tree

-- a cell may come: so many tables are wanted of it, no cell has its id, there is room for it, and its claims are sound and
-- grant nothing of the hypervisor's memory but its communication page
pub record MayCome (coming : Claims) (stage : Stage2) (id tables : ℕ) : Type 0 where
  pub counted : tables ≡ tables_of coming
  pub new : (seat : Seat) → HasSeat stage seat → seat.id ≢ id
  pub room : length stage.seats.items < 16
  pub fit : IsFitToCome coming stage

-- a cell may go: it has a seat, and isn't root
pub record MayGo (stage : Stage2) (id : ℕ) : Type 0 where
  pub seat : Seat
  pub sits : HasSeat stage seat
  pub named : seat.id ≡ id
  pub cell : is_root seat ≡ false

abbrev pub MayChange : Claims → Stage2 → Planned → Type 0
MayChange coming stage Unchanged = Unit {0}
MayChange coming stage (Create id tables) = MayCome coming stage id tables
MayChange coming stage (Destroy id) = MayGo stage id

-- the pages that a cell which comes takes: its tables, and its communication page
abbrev pub pages_planned : Claims → Planned → ℕ
pages_planned coming Unchanged = 0
pages_planned coming (Create id tables) = tables_of coming + 1
pages_planned coming (Destroy id) = 0

-- an edit may be planned, to what root and a cell that comes will claim: none is under way, the tables of all cells stand,
-- root's claims are sound and grant nothing of the hypervisor's memory, the call's cell may come or go, and the pool has the
-- pages that are lacking
pub record MayPlan (rootward coming : Claims) (stage : Stage2) (cell : Planned) : Type 0 where
  pub claims : Seat → Claims
  pub forest : IsForest claims stage
  pub still : stage.editing ≡ None
  pub root : HasRoot stage
  pub sound : AreSoundClaims rootward
  pub kept : GrantsNothingOf rootward stage.frames.own.base (length stage.frames.own.bytes)
  pub change : MayChange coming stage cell
  pub enough : lack_of (want_of rootward) (words stage.frames) levels root.tree.table 0 + (pages_planned coming cell + used_of stage.pool) ≤ stage.pool.size

-- the part of the call's cell: two turns are allowed for each table of one that comes
abbrev pub IsPartPlanned : Planned → CellPart → Type 0
IsPartPlanned Unchanged part = part ≡ NoPart
IsPartPlanned (Create id tables) part = part ≡ Fresh id (2 * tables)
IsPartPlanned (Destroy id) part = (edit : EditView) × (part ≡ Remove id edit)

-- the cell whose tables the part takes away
abbrev pub removed_id : CellPart → Option ℕ
removed_id NoPart = None
removed_id (Fresh id bound) = None
removed_id (Build id edit) = None
removed_id (Remove id edit) = Some id
