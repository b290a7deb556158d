-- A board where cells of a plan live, and a create of another cell of that plan there.
use Rattle.std.specs.Prelude.{◌≡◌, ◌≢◌, ◌<◌, ◌^◌, ℕ, true, false, List, length, All, Contains, Some}
use Rattle.std.specs.List.{list_any}
use Rattle.jh_num.specs.Below.{any_below}
use Rattle.jh_cellcfg.specs.declared.config.CellConfig.{CellConfig}
use Rattle.jh_cellcfg.specs.declared.live.Live.{Live}
use Rattle.jh_cellcfg.specs.Cells.{is_cpu_set}
use Rattle.jh_cellcfg.specs.Spelling.{spelling}
use Rattle.jh_script.specs.declared.image.Image.{Image}
use Rattle.jh_history.specs.declared.entry.Entry.{Entry}
use Rattle.jh_history.specs.declared.form.Form.{Form}
use Rattle.jh_history.specs.Admitted.{IsAdmitted}
use Rattle.jh_history.specs.Configs.{bytes_at}
use Rattle.jh_history.specs.Due.{IsLegal}
use Rattle.jh_history.specs.Facts.{Facts}
use Rattle.jh_history.specs.History.{facts}
use Rattle.jh_history.specs.Phases.{is_locked}
use Rattle.jh_plan.specs.declared.demand.Demand.{Demand}
use Rattle.jh_plan.specs.declared.planning.Planned.{Planned}
use Rattle.jh_plan.specs.Demands.{IsDemand}
use Rattle.jh_plan.specs.Plans.{IsPlan}

-- the demand is within its limits, its id too
abbrev pub IsTypedDemand : Demand → Type 0
IsTypedDemand demand = IsDemand demand × (demand.id < 2 ^ 32)

-- demands, and the cells of an admitted image's plan that meets them
pub record PlannedImage : Type 0 where
  pub image : Image
  pub demands : List Demand
  pub planned : Planned
  pub admitted : IsAdmitted image
  pub typed : All IsTypedDemand demands
  pub plan : IsPlan image.system demands planned

-- a legal journal of the image, of either form, after which cells of the plan live besides root and no other, whichever
-- they are and in whatever order, and none is locked
pub record PlannedBoard : Type 0 where
  pub of : PlannedImage
  pub form : Form
  pub entries : List Entry
  pub legal : IsLegal of.image form entries
  pub live : (live : Live) → Contains (facts of.image form entries).cells live → Contains of.planned.cells live.config
  pub unlocked : list_any (is_locked (facts of.image form entries)) (facts of.image form entries).cells ≡ false

-- what holds behind the journal
abbrev pub facts_of : PlannedBoard → Facts
facts_of board = facts board.of.image board.form board.entries

-- the CPU is the cell's lowest
pub record IsLowestCpu (cell : CellConfig) (cpu : ℕ) : Type 0 where
  pub has : is_cpu_set cell.cpu_set cpu ≡ true
  pub lowest : any_below (is_cpu_set cell.cpu_set) cpu ≡ false

-- root's lowest CPU creates a cell of the plan that doesn't live yet, from the address: root may read the cell's spelling
-- there
pub record IsCreateOf (board : PlannedBoard) (config : CellConfig) (caller at : ℕ) : Type 0 where
  pub among : Contains board.of.planned.cells config
  pub new : (live : Live) → Contains (facts_of board).cells live → live.config.id ≢ config.id
  pub by_lowest : IsLowestCpu board.of.image.system.root caller
  pub spelled : bytes_at board.of.image (facts_of board) at (length (spelling config)) ≡ Some (spelling config)
