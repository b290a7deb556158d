-- The tables of all cells on a board: what each cell's are made from, and what stands in memory.
use Rattle.std.specs.Prelude.{◌≡◌, ℕ, ◌+◌, ◌<◌, ◌↔◌, Bool, false, [], ◌∷◌, List, flat_map, map, nat_eq, Contains, Option, Some, None, find, if◌then◌else◌}
use Rattle.jh_num.specs.declared.address.TheConstants.{ADDRESS_END}
use Rattle.jh_num.specs.declared.rights.Rights.{Rights}
use Rattle.jh_cellcfg.specs.declared.config.CellConfig.{CellConfig}
use Rattle.jh_cellcfg.specs.declared.live.Live.{Live}
use Rattle.jh_cellcfg.specs.Lives.{has_id, id_of}
use Rattle.jh_desc.specs.declared.descriptor.Hit.{Hit}
use Rattle.jh_pool.specs.Pages.{IsTakenPage, used_of}
use Rattle.jh_walk.specs.Walks.{levels, walk_of}
use Rattle.jh_script.specs.declared.image.Image.{Image}
use Rattle.jh_shape.specs.Claims.{Claims}
use Rattle.jh_shape.specs.Grants.{IsGranted}
use Rattle.jh_shape.specs.Lives.{all_cells, configs_of}
use Rattle.jh_shape.specs.Pages.{cell_claims, live_root_claims, pages_of}
use Rattle.jh_edit.specs.declared.leaves.LeafAt.{LeafAt}
use Rattle.jh_edit.specs.declared.stage.Seat.{Seat}
use Rattle.jh_edit.specs.declared.stage.Stage2.{Stage2}
use Rattle.jh_edit.specs.declared.stage.Tree.{Tree}
use Rattle.jh_edit.specs.Ends.{came}
use Rattle.jh_edit.specs.Forest.{comm_uses, is_edited, is_root, table_uses, HasSeat, IsKeptOut}
use Rattle.jh_edit.specs.Leaves.{leaves_in}
use Rattle.jh_edit.specs.Seats.{cell_tree}
use Rattle.jh_edit.specs.Tables.{words}
use Rattle.jh_board.specs.declared.leaves.TableLeaf.{TableLeaf}
use Rattle.jh_board.specs.Seats.{ids_of}

-- what the tables of the cell are made from, but for its communication page; where there is no cell, nothing
abbrev pub claims_by : Option Live → Claims
claims_by None = record { regions = []; root = false; holders = []; comm = 0 }
claims_by (Some live) = cell_claims live.config

-- what the tables of the seat's cell are made from where these cells live: root's beside them, and another's with its
-- communication page
abbrev pub claims_in : Image → List Live → Seat → Claims
claims_in image lives seat =
    if is_root seat then live_root_claims image.system.root.memory_regions lives else came (claims_by (find (has_id seat.id) lives)) seat.comm

-- ---- what stands in memory

-- what a walk finds at the address is just what is granted there: the place, the rights and the kind of memory of the
-- region that grants it; it finds nothing where nothing is granted
abbrev pub TellsGrant : Claims → ℕ → Option Hit → Type 0
TellsGrant claims at None = (place : ℕ) (rights : Rights) (device : Bool) → IsGranted claims at place rights device → ⊥
TellsGrant claims at (Some hit) = IsGranted claims at hit.out hit.rights hit.device

-- the seat's cell has tables, in which a walk finds at each address what the claims grant there
abbrev pub TellsGrants : Claims → Stage2 → Seat → Type 0
TellsGrants claims stage seat =
    (tree : Tree) × ((seat.tree ≡ Some tree) × ((at : ℕ) → at < ADDRESS_END → TellsGrant claims at (walk_of (words stage.frames) levels tree.table at)))

-- the cell with the configuration has a seat, and, unless they are edited, its tables tell what it is granted where these
-- cells live; root alone has no communication page
pub record HasTables (image : Image) (lives : List Live) (stage : Stage2) (config : CellConfig) : Type 0 where
  pub seat : Seat
  pub sits : HasSeat stage seat
  pub named : seat.id ≡ config.id
  pub root : is_root seat ≡ nat_eq config.id image.system.root.id
  pub tells : is_edited stage.editing seat ≡ false → TellsGrants (claims_in image lives seat) stage seat

-- root and each cell that lives besides it have tables, which tell what it is granted
abbrev pub HaveAllTables : Image → List Live → Stage2 → Type 0
HaveAllTables image lives stage = (config : CellConfig) → Contains (all_cells image.system.root lives) config → HasTables image lives stage config

-- no address leads by any cell's tables into the hypervisor's memory but into the cell's own communication page
abbrev pub AreKeptOut : Stage2 → Type 0
AreKeptOut stage = (seat : Seat) (tree : Tree) → HasSeat stage seat → seat.tree ≡ Some tree → IsKeptOut stage seat tree

-- root and the cells that live besides it have a seat each, and no other cell has; the pages of the pool that are taken are
-- just their tables and communication pages; and they are as many as are counted from the configurations
pub record AreTakenPages (image : Image) (lives : List Live) (stage : Stage2) : Type 0 where
  pub seats : ids_of stage ≡ image.system.root.id ∷ map id_of lives
  pub taken : (page : ℕ) → IsTakenPage stage.pool page ↔ (0 < table_uses stage page + comm_uses stage page)
  pub used : used_of stage.pool ≡ pages_of image.system.root.memory_regions (configs_of lives)

-- ---- what is told of tables

-- the place that a leaf leads to, as it is told: of the cell's communication page, whose place isn't told, it is 0
abbrev pub told_place : Option ℕ → ℕ → ℕ
told_place None out = out
told_place (Some comm) out = if nat_eq out comm then 0 else out

-- the leaf of the tables of the seat's cell, as it is told
abbrev pub told_leaf : Seat → LeafAt → TableLeaf
told_leaf seat leaf = record { cell = seat.id; leaf = record { level = leaf.level; at = leaf.at; out = told_place seat.comm leaf.out; rights = leaf.rights; device = leaf.device } }

-- the leaves of the tables of the seat's cell, in order of address
abbrev pub told_leaves : Stage2 → Seat → List TableLeaf
told_leaves stage seat = map (told_leaf seat) (leaves_in (words stage.frames) (cell_tree seat.id stage.seats.items))

-- what is told of the tables of root and of the cells that live besides it: in their order all leaves that descriptors in
-- memory make, where these tables stand
pub record TellsTables (image : Image) (lives : List Live) (leaves : List TableLeaf) : Type 0 where
  pub stage : Stage2
  pub stands : HaveAllTables image lives stage
  pub pages : AreTakenPages image lives stage
  pub is : leaves ≡ flat_map (told_leaves stage) stage.seats.items
