-- Good words and files: the words have a command, and each file that they name is in its grammar and within its
-- limits. A call with them isn't refused.
use Rattle.std.specs.Prelude.{◌≡◌, ◌≢◌, ℕ, ◌⊎◌, List, [], ◌∷◌, Option, None, Some, ⊤}
use Rattle.std.specs.List.{AllByRecursion}
use Rattle.jh_cellcfg.specs.declared.config.CellConfig.{CellConfig}
use Rattle.jh_cellcfg.specs.declared.config.SystemConfig.{SystemConfig}
use Rattle.jh_script.specs.declared.image.Image.{Image}
use Rattle.jh_history.specs.declared.form.Form.TheVariants.{Two}
use Rattle.jh_history.specs.Items.{items, played}
use Rattle.jh_spec.specs.declared.spec.Spec.{Spec}
use Rattle.jh_plan.specs.declared.demand.Demand.{Demand}
use Rattle.jh_plan.specs.declared.planning.Planned.{Planned}
use Rattle.jh_plan.specs.Plans.{IsPlan}
use Rattle.jh_image.specs.declared.board.Listing.{Listing}
use Rattle.jh_image.specs.Files.{Contents, Lists}
use Rattle.jh_image.specs.Images.{IsImage}
use Rattle.jh_image.specs.Order.{board_files}
use Rattle.jh_text.specs.Faults.{max_entries}
use Rattle.jh_cli.specs.Words.{Request, CheckOf, PackOf, PlayOf, RunOf, MapOf, AuditOf, SoakOf, PlanOf, PinsOf, TablesOf}
use Rattle.jh_cli.specs.Check.{IsCellFile, IsSystemFile}
use Rattle.jh_cli.specs.Pack.{IsSpecFile}
use Rattle.jh_cli.specs.Play.{IsScheduleFile, played_status}
use Rattle.jh_cli.specs.Audit.{SpelledJournal, IsJournalFile}
use Rattle.jh_cli.specs.Soak.{AreRounds}
use Rattle.jh_cli.specs.Plan.{AreDemands, IsAdmittedSystemFile}
use Rattle.jh_cli.specs.declared.status.Status.{Status}
use Rattle.jh_cli.specs.declared.status.Status.TheVariants.{Good, Found, Full}

module _ {A : Type 0} where
  -- the file of this name holds bytes that spell this value
  pub record FileHolds (contents : Contents) (name : List ℕ) (Form : List ℕ → A → Type 0) (value : A) : Type 0 where
    pub bytes : List ℕ
    pub holds : contents name ≡ Some (Some bytes)
    pub spelled : Form bytes value

-- the files of these names hold these cells, one each
abbrev pub HoldCells : Contents → List (List ℕ) → List CellConfig → Type 0
HoldCells contents [] [] = ⊤
HoldCells contents (name ∷ names) (cell ∷ cells) = FileHolds contents name IsCellFile cell × HoldCells contents names cells
HoldCells contents _ _ = ⊥

-- the files tell of each of these names all the bytes that it holds, or that it is missing
abbrev pub AreKnownNames : Contents → List (List ℕ) → Type 0
AreKnownNames contents names = AllByRecursion (λ name. contents name ≢ None) names

-- the files tell of the board and of what it lists
pub record IsKnownBoard (contents : Contents) (board : List ℕ) : Type 0 where
  pub of_board : AreKnownNames contents (board ∷ [])
  pub of_files : (listing : Listing) → Lists contents board listing → AreKnownNames contents (board_files board listing)

-- the files tell of each file that the words name, and of what a board lists
abbrev pub AreKnownFiles : Contents → Option Request → Type 0
AreKnownFiles contents None = ⊤
AreKnownFiles contents (Some (CheckOf system cells)) = AreKnownNames contents (system ∷ cells)
AreKnownFiles contents (Some (PackOf spec)) = AreKnownNames contents (spec ∷ [])
AreKnownFiles contents (Some (PlayOf board schedule)) = IsKnownBoard contents board × AreKnownNames contents (schedule ∷ [])
AreKnownFiles contents (Some (RunOf board)) = IsKnownBoard contents board
AreKnownFiles contents (Some (MapOf board schedule)) = IsKnownBoard contents board × AreKnownNames contents (schedule ∷ [])
AreKnownFiles contents (Some (AuditOf board journal)) = IsKnownBoard contents board × AreKnownNames contents (journal ∷ [])
AreKnownFiles contents (Some (SoakOf rounds)) = ⊤
AreKnownFiles contents (Some (PlanOf system demands)) = AreKnownNames contents (system ∷ demands ∷ [])
AreKnownFiles contents (Some (PinsOf board schedule)) = IsKnownBoard contents board × AreKnownNames contents (schedule ∷ [])
AreKnownFiles contents (Some (TablesOf board schedule)) = IsKnownBoard contents board × AreKnownNames contents (schedule ∷ [])

-- the first file of a check holds a system and each other one a cell, whatever the check finds in them
pub record AreGoodToCheck (contents : Contents) (system : List ℕ) (cells : List (List ℕ)) : Type 0 where
  pub of_system : SystemConfig
  pub system_held : FileHolds contents system IsSystemFile of_system
  pub of_cells : List CellConfig
  pub cells_held : HoldCells contents cells of_cells

-- the file of a pack holds a configuration's SPEC
pub record IsGoodToPack (contents : Contents) (name : List ℕ) : Type 0 where
  pub spec : Spec
  pub spells : FileHolds contents name IsSpecFile spec

-- the files tell of the board and of what it lists, which make an image, and the schedule's holds items for it
pub record AreGoodToPlay (contents : Contents) (board schedule : List ℕ) : Type 0 where
  pub known : IsKnownBoard contents board
  pub image : Image
  pub is : IsImage contents board image
  pub items : List ℕ
  pub spells : FileHolds contents schedule (IsScheduleFile image) items

-- the files tell of the board and of what it lists, which make an image
pub record AreGoodToRun (contents : Contents) (board : List ℕ) : Type 0 where
  pub known : IsKnownBoard contents board
  pub image : Image
  pub is : IsImage contents board image

-- the files tell of the board and of what it lists, which make an image, and the journal's holds a journal, whether it is
-- legal or not
pub record AreGoodToAudit (contents : Contents) (board journal : List ℕ) : Type 0 where
  pub known : IsKnownBoard contents board
  pub image : Image
  pub is : IsImage contents board image
  pub spelled : SpelledJournal
  pub spells : FileHolds contents journal IsJournalFile spelled

-- the first file of a plan holds a system that a board may have, and the other demands that a plan meets beside it
pub record AreGoodToPlan (contents : Contents) (system demands : List ℕ) : Type 0 where
  pub of_system : SystemConfig
  pub system_held : FileHolds contents system IsAdmittedSystemFile of_system
  pub of_demands : List Demand
  pub demands_held : FileHolds contents demands AreDemands of_demands
  pub planned : Planned
  pub is : IsPlan of_system of_demands planned

-- the words have a command, and its files are good for it
abbrev pub AreGood : Contents → Option Request → Type 0
AreGood contents None = ⊥
AreGood contents (Some (CheckOf system cells)) = AreGoodToCheck contents system cells
AreGood contents (Some (PackOf spec)) = IsGoodToPack contents spec
AreGood contents (Some (PlayOf board schedule)) = AreGoodToPlay contents board schedule
AreGood contents (Some (RunOf board)) = AreGoodToRun contents board
AreGood contents (Some (MapOf board schedule)) = AreGoodToPlay contents board schedule
AreGood contents (Some (AuditOf board journal)) = AreGoodToAudit contents board journal
AreGood contents (Some (SoakOf rounds)) = (n : ℕ) × AreRounds rounds n
AreGood contents (Some (PlanOf system demands)) = AreGoodToPlan contents system demands
AreGood contents (Some (PinsOf board schedule)) = AreGoodToPlay contents board schedule
AreGood contents (Some (TablesOf board schedule)) = AreGoodToPlay contents board schedule

-- what a call with good words and files ends with: a check or an audit with `Good` or `Found`, a pack or a plan with
-- `Good`, a play
-- with whether the journal stopped at its limit, a map, pins or tables with whether that of the schedule's items alone did, a run
-- or a soak with `Good` or `Full`; where there are two, it is left to the outcome which of them it is
abbrev pub MayEndWith : (contents : Contents) (request : Option Request) → AreGood contents request → Status → Type 0
MayEndWith contents None good status = ⊥
MayEndWith contents (Some (CheckOf system cells)) good status = (status ≡ Good) ⊎ (status ≡ Found)
MayEndWith contents (Some (PackOf spec)) good status = status ≡ Good
MayEndWith contents (Some (PlayOf board schedule)) good status = status ≡ played_status (played good.image Two max_entries good.items).full
MayEndWith contents (Some (RunOf board)) good status = (status ≡ Good) ⊎ (status ≡ Full)
MayEndWith contents (Some (MapOf board schedule)) good status = status ≡ played_status (items good.image Two max_entries good.items []).full
MayEndWith contents (Some (AuditOf board journal)) good status = (status ≡ Good) ⊎ (status ≡ Found)
MayEndWith contents (Some (SoakOf rounds)) good status = (status ≡ Good) ⊎ (status ≡ Full)
MayEndWith contents (Some (PlanOf system demands)) good status = status ≡ Good
MayEndWith contents (Some (PinsOf board schedule)) good status = status ≡ played_status (items good.image Two max_entries good.items []).full
MayEndWith contents (Some (TablesOf board schedule)) good status = status ≡ played_status (items good.image Two max_entries good.items []).full
