-- The edit of a call, whole, and what a Commit does to the tables of cells.
use Rattle.std.specs.Prelude.{◌≡◌, ℕ, Bool, false, not, nat_eq, filter, List, [], ◌∷◌, ◌++◌, Option, Some, None, option_map, IfSome, if◌then◌else◌}
use Rattle.jh_cellcfg.specs.declared.config.CellConfig.{CellConfig}
use Rattle.jh_cellcfg.specs.declared.live.Live.{Live}
use Rattle.jh_cellcfg.specs.declared.region.Region.{Region}
use Rattle.jh_call.specs.declared.call.Call.{Call}
use Rattle.jh_call.specs.declared.call.Call.TheVariants.{Create as CreateCall, Destroy as DestroyCall}
use Rattle.jh_history.specs.declared.call.OpenCall.{OpenCall}
use Rattle.jh_history.specs.declared.call.Phase.{Phase}
use Rattle.jh_history.specs.declared.call.Phase.TheVariants.{ToCreate}
use Rattle.jh_history.specs.declared.comm.PageWrite.{PageWrite}
use Rattle.jh_history.specs.declared.entry.Act.{Act}
use Rattle.jh_history.specs.declared.entry.Act.TheVariants.{Commit}
use Rattle.jh_history.specs.declared.place.Place.{Place}
use Rattle.jh_history.specs.Lives.{live_in}
use Rattle.jh_shape.specs.Claims.{Claims}
use Rattle.jh_shape.specs.Pages.{cell_claims, live_root_claims, tables_of}
use Rattle.jh_edit.specs.declared.planning.Planned.{Planned}
use Rattle.jh_edit.specs.declared.planning.Planned.TheVariants.{Unchanged, Create, Destroy}
use Rattle.jh_edit.specs.declared.stage.CellPart.{CellPart}
use Rattle.jh_edit.specs.declared.stage.CellPart.TheVariants.{Unchanged as NoPart, Fresh, Build, Remove}
use Rattle.jh_edit.specs.declared.stage.Editing.{Editing}
use Rattle.jh_edit.specs.declared.stage.Seat.{Seat}
use Rattle.jh_edit.specs.declared.stage.Stage2.{Stage2}
use Rattle.jh_edit.specs.Ends.{came}
use Rattle.jh_edit.specs.Keeping.{Sitter, sitters, KeepsCells}
use Rattle.jh_edit.specs.Forest.{IsEdit, IsForest, is_root, left_of}
use Rattle.jh_edit.specs.Planned.{MayPlan}
use Rattle.jh_board.specs.Seats.{IsSeated}
use Rattle.jh_board.specs.Private.Pages.{ids_but, IsFresh, IsOtherPlace}

-- the cell with the id comes by the call
abbrev pub comes : Planned → ℕ → Bool
comes Unchanged other = false
comes (Create id tables) other = nat_eq id other
comes (Destroy id) other = false

-- the claims of each cell after the call: those that root gets, those of the cell that came, and for all others the same
abbrev pub claims_planned : Claims → Claims → Planned → (Seat → Claims) → Seat → Claims
claims_planned rootward coming planned claims seat =
    if is_root seat then rootward else if comes planned seat.id then came coming seat.comm else claims seat

-- the part is one of the call's edit, at any turn of it
abbrev pub IsPartOf : Planned → CellPart → Type 0
IsPartOf Unchanged NoPart = Unit {0}
IsPartOf (Create id tables) (Fresh other bound) = other ≡ id
IsPartOf (Create id tables) (Build other edit) = other ≡ id
IsPartOf (Destroy id) (Remove other edit) = other ≡ id
IsPartOf planned part = ⊥

-- the cells that have a seat at a turn of the edit, by those that had one before it: one that is built has one more
abbrev pub AreSeatedSo : CellPart → List Sitter → List Sitter → Type 0
AreSeatedSo NoPart old new = new ≡ old
AreSeatedSo (Fresh id bound) old new = new ≡ old
AreSeatedSo (Build id edit) old new = (comm : ℕ) × (new ≡ old ++ record { id = id; comm = Some comm } ∷ [])
AreSeatedSo (Remove id edit) old new = new ≡ old

-- the cells that have a seat after the call, by those that had one before
abbrev pub AreSeatedAfter : Planned → List Sitter → List Sitter → Type 0
AreSeatedAfter Unchanged old new = new ≡ old
AreSeatedAfter (Create id tables) old new = (comm : ℕ) × (new ≡ old ++ record { id = id; comm = Some comm } ∷ [])
AreSeatedAfter (Destroy id) old new = new ≡ filter (λ (one : Sitter). not (nat_eq one.id id)) old

-- the edit of the call is under way since that stage, with so many turns left
pub record IsEditing (rootward coming : Claims) (planned : Planned) (left : ℕ) (since stage : Stage2) : Type 0 where
  pub editing : Editing
  pub now : stage.editing ≡ Some editing
  pub claims : Seat → Claims
  pub forest : IsForest claims stage
  pub edit : IsEdit rootward coming stage editing
  pub turns : left ≡ left_of editing
  pub part : IsPartOf planned editing.cell
  pub cells : KeepsCells since stage
  pub seats : AreSeatedSo editing.cell (sitters since) (sitters stage)

-- ---- what a Commit plans

-- the cell comes, with all tables that it wants
abbrev pub create_of_tables : CellConfig → Planned
create_of_tables config = Create config.id (tables_of (cell_claims config))

-- the cell goes, if there is one
abbrev pub destroy_of : Option CellConfig → Planned
destroy_of None = Unchanged
destroy_of (Some config) = Destroy config.id

-- what the Commit of the call does to the tables of cells, where these cells live before it
abbrev pub plan_of : List Live → Call → Phase → Planned
plan_of lives (CreateCall at) (ToCreate config) = create_of_tables config
plan_of lives (DestroyCall id) phase = destroy_of (live_in lives id)
plan_of lives call phase = Unchanged

-- what the act does to the tables of cells, by the call that is open, if one is: a Commit alone edits them
abbrev pub planned_by : List Live → Option OpenCall → Act → Option Planned
planned_by lives call Commit = option_map (λ (o : OpenCall). plan_of lives o.call o.phase) call
planned_by lives call act = None

-- what the tables of the cell with the configuration are made from, but for its communication page
abbrev pub claims_of_cell : Option CellConfig → Claims
claims_of_cell None = record { regions = []; root = false; holders = []; comm = 0 }
claims_of_cell (Some config) = cell_claims config

-- what the tables of the cell that comes are made from, where these cells live after the call
abbrev pub coming_claims : List Live → Planned → Claims
coming_claims lives Unchanged = claims_of_cell None
coming_claims lives (Create id tables) = claims_of_cell (live_in lives id)
coming_claims lives (Destroy id) = claims_of_cell None

-- the tables may be edited as it is planned, to what is wanted where root has the regions and these cells live
abbrev pub MayEdit : List Region → List Live → Stage2 → Planned → Type 0
MayEdit regions lives stage planned = MayPlan (live_root_claims regions lives) (coming_claims lives planned) stage planned

-- the claims of each cell after what is planned, where these cells live then
abbrev pub claims_edited : List Region → List Live → Option Planned → (Seat → Claims) → Seat → Claims
claims_edited regions lives None claims = claims
claims_edited regions lives (Some planned) claims = claims_planned (live_root_claims regions lives) (coming_claims lives planned) planned claims

-- ---- communication pages

-- the ids of the cells that have a seat after what is planned
abbrev pub ids_planned : Planned → List ℕ → List ℕ
ids_planned Unchanged ids = ids
ids_planned (Create id tables) ids = ids ++ id ∷ []
ids_planned (Destroy id) ids = ids_but id ids

abbrev pub ids_edited : Option Planned → List ℕ → List ℕ
ids_edited None ids = ids
ids_edited (Some planned) ids = ids_planned planned ids

-- the place isn't one of the communication page of the cell that comes or goes
abbrev pub StaysBy : Planned → Place → Type 0
StaysBy Unchanged place = Unit {0}
StaysBy (Create id tables) place = IsOtherPlace id place
StaysBy (Destroy id) place = IsOtherPlace id place

abbrev pub StaysIf : Option Planned → Place → Type 0
StaysIf None place = Unit {0}
StaysIf (Some planned) place = StaysBy planned place

-- the cell that comes, if one does, has a communication page
abbrev pub HasCome : Planned → Stage2 → Type 0
HasCome Unchanged stage = Unit {0}
HasCome (Create id tables) stage = IsSeated stage id
HasCome (Destroy id) stage = Unit {0}

abbrev pub HasComeIf : Option Planned → Stage2 → Type 0
HasComeIf None stage = Unit {0}
HasComeIf (Some planned) stage = HasCome planned stage

-- a page is written that is there after what is planned: of a cell that comes its own, which is made fresh, and none where
-- a cell goes
abbrev pub MayWritePage : Option Planned → Stage2 → Option PageWrite → Type 0
MayWritePage None stage write = IfSome write (λ w. IsSeated stage w.cell)
MayWritePage (Some Unchanged) stage write = IfSome write (λ w. IsSeated stage w.cell)
MayWritePage (Some (Create id tables)) stage write = (w : PageWrite) × ((write ≡ Some w) × (w.cell ≡ id) × IsFresh w.change)
MayWritePage (Some (Destroy id)) stage write = write ≡ None

-- the place isn't one of the communication page of a cell that goes
abbrev pub LastsBy : Option Planned → Place → Type 0
LastsBy (Some (Destroy id)) place = IsOtherPlace id place
LastsBy planned place = Unit {0}
