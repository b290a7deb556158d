-- What speaks against the create of a cell, each cause in its own words, and in which order the causes are told.
use Rattle.std.specs.Prelude.{◌≡◌, ℕ, ℤ, ◌+◌, ◌<◌, Bool, true, false, [], ◌∷◌, ◌++◌, length, Option, Contains, ◌⊎◌}
use Rattle.jh_num.specs.declared.error.TheConstants.{EBUSY, EEXIST, EINVAL, ENOMEM, EPERM}
use Rattle.jh_cellcfg.specs.declared.config.CellConfig.{CellConfig}
use Rattle.jh_cellcfg.specs.Cells.{name_of, is_cpu_set}
use Rattle.jh_check.specs.declared.finding.Finding.{Finding}
use Rattle.jh_check.specs.Broken.{IsBroken}
use Rattle.jh_check.specs.Refusals.{IsAccepted}
use Rattle.jh_check.specs.Verdicts.{is_cells_overlap}
use Rattle.jh_num.specs.Bits.{has_bit}
use Rattle.jh_life.specs.CellsView.{CellsView}
use Rattle.jh_life.specs.Lives.{numbered_cells}
use Rattle.jh_shape.specs.Lives.{configs_of}
use Rattle.jh_life.specs.Verdict.{may_have, pages_with, verdict_of_create}

-- a create that is asked for: whether a live cell allows none, the new cell, the CPUs that are root's as bits, the
-- one that asks, and how many pages there are
pub record Create : Type 0 where
  pub locked : Bool
  pub new : CellConfig
  pub owned : ℕ
  pub caller : ℕ
  pub pool : ℕ

-- the number that the create is refused with, if it is refused
abbrev pub verdict_on : CellsView → Create → Option ℤ
verdict_on seen create = verdict_of_create seen create.locked create.new create.owned create.caller create.pool

-- nothing holds that the create would be refused for: no live cell is locked, and the new cell is accepted: neither root
-- nor a live cell has its name or id, it names no CPU but root's, without the caller's, the check finds nothing that names
-- it, and the pages of all cells with it are there
pub record IsLetIn (seen : CellsView) (create : Create) : Type 0 where
  pub unlocked : create.locked ≡ false
  pub accepted : IsAccepted seen.system (configs_of seen.lives) create.new (may_have create.owned create.caller) (pages_with seen create.new) create.pool

-- what may speak against a create, in the order in which it is told
pub data Cause : Type 0 where
  Locked : Cause
  Known : Cause
  TakenCpu : Cause
  BrokenRule : Cause
  Overlap : Cause
  FewPages : Cause

-- the rank of the cause in the order in which causes are told
abbrev pub rank : Cause → ℕ
rank Locked = 0
rank Known = 1
rank TakenCpu = 2
rank BrokenRule = 3
rank Overlap = 4
rank FewPages = 5

-- the number that tells the cause
abbrev pub number_for : Cause → ℤ
number_for Locked = EPERM
number_for Known = EEXIST
number_for TakenCpu = EBUSY
number_for BrokenRule = EINVAL
number_for Overlap = EBUSY
number_for FewPages = ENOMEM

-- root or a live cell has the new one's id or its name
pub record IsKnownTo (seen : CellsView) (new : CellConfig) : Type 0 where
  pub cell : CellConfig
  pub lives : Contains (numbered_cells seen) cell
  pub same : (cell.id ≡ new.id) ⊎ (name_of cell ≡ name_of new)

-- the new cell names a CPU that isn't root's, or the one that asks
pub record NamesTakenCpu (create : Create) : Type 0 where
  pub cpu : ℕ
  pub named : is_cpu_set create.new.cpu_set cpu ≡ true
  pub taken : (has_bit create.owned cpu ≡ false) ⊎ (cpu ≡ create.caller)

-- a rule is broken where the new cell, as the last, is beside the live ones, and its finding names the new one; it is
-- about places that two cells would have exactly where `overlaps` says so
pub record BreaksRule (seen : CellsView) (new : CellConfig) (overlaps : Bool) : Type 0 where
  pub finding : Finding
  pub broken : IsBroken seen.system (configs_of seen.lives ++ new ∷ []) finding
  pub named : (finding.cell ≡ length (configs_of seen.lives) + 1) ⊎ (finding.other_cell ≡ length (configs_of seen.lives) + 1)
  pub kind : is_cells_overlap finding ≡ overlaps

-- all cells with the new one need more pages than there are
abbrev pub LacksPages : CellsView → Create → Type 0
LacksPages seen create = create.pool < pages_with seen create.new

-- the cause speaks against the create
abbrev pub SpeaksAgainst : CellsView → Create → Cause → Type 0
SpeaksAgainst seen create Locked = create.locked ≡ true
SpeaksAgainst seen create Known = IsKnownTo seen create.new
SpeaksAgainst seen create TakenCpu = NamesTakenCpu create
SpeaksAgainst seen create BrokenRule = BreaksRule seen create.new false
SpeaksAgainst seen create Overlap = BreaksRule seen create.new true
SpeaksAgainst seen create FewPages = LacksPages seen create

-- the cause holds, and none before it
pub record IsFirst (seen : CellsView) (create : Create) (cause : Cause) : Type 0 where
  pub holds : SpeaksAgainst seen create cause
  pub none : (other : Cause) → rank other < rank cause → SpeaksAgainst seen create other → ⊥
