-- What a hypercall is answered at once, by its cause.
use Rattle.std.specs.Prelude.{◌≡◌, ◌≢◌, ◌≤◌, ◌<◌, ◌+◌, ◌⊎◌, ℕ, ℤ, pos, negsuc, true, false, Contains, length}
use Rattle.jh_num.specs.declared.error.TheConstants.{EPERM, ENOENT, EINVAL, ENOSYS}
use Rattle.jh_cellcfg.specs.declared.config.CellConfig.{CellConfig}
use Rattle.jh_shape.specs.Pages.{pages_of}
use Rattle.jh_cpu.specs.declared.cpu.Mode.TheVariants.{Running, Parked, Failed}
use Rattle.jh_call.specs.declared.call.Call.{Call}
use Rattle.jh_call.specs.declared.call.Call.TheVariants.{Create, Start, Loadable, Destroy, Info, State, CpuInfo, CpuOff, CpuOn, Affinity, Unknown}
use Rattle.jh_script.specs.declared.image.Image.{Image}
use Rattle.jh_history.specs.Facts.{Facts}
use Rattle.jh_history.specs.Lives.{is_on_board}
use Rattle.jh_history.specs.Admitted.{pool_pages}
use Rattle.jh_history.specs.Phases.{state_word}
use Rattle.jh_shape.specs.Lives.{configs_of}
use Rattle.jh_laws.specs.Decisions.{LivesNot}

-- the answer to a request for information about the hypervisor: how many pages the pool has, how many are used, how many
-- cells live, root too; EINVAL for any other kind
pub record IsInfoAnswer (image : Image) (f : Facts) (kind : ℕ) (answer : ℤ) : Type 0 where
  pub size : kind ≡ 0 → answer ≡ pos (pool_pages image.system)
  pub used : kind ≡ 1 → answer ≡ pos (pages_of image.system.root.memory_regions (configs_of f.cells))
  pub cells : kind ≡ 4 → answer ≡ pos (length f.cells + 1)
  pub other : kind ≢ 0 → kind ≢ 1 → kind ≢ 4 → answer ≡ EINVAL

-- the answer to a request for the state of a cell, which root alone is told: 0 for root, and the state word of another
-- live cell where that is one of the five states, EINVAL where it is none; ENOENT where no such cell lives, and EPERM to a
-- cell that isn't root
pub record IsStateAnswer (image : Image) (f : Facts) (cell id : ℕ) (answer : ℤ) : Type 0 where
  pub others : cell ≢ image.system.root.id → answer ≡ EPERM
  pub root : cell ≡ image.system.root.id → id ≡ image.system.root.id → answer ≡ pos 0
  pub state : (config : CellConfig) → cell ≡ image.system.root.id → Contains (configs_of f.cells) config → config.id ≡ id → state_word f id ≤ 4 → answer ≡ pos (state_word f id)
  pub wrong : (config : CellConfig) → cell ≡ image.system.root.id → Contains (configs_of f.cells) config → config.id ≡ id → 4 < state_word f id → answer ≡ EINVAL
  pub none : cell ≡ image.system.root.id → id ≢ image.system.root.id → LivesNot f id → answer ≡ ENOENT

-- the cell may see the CPU: root sees each, and another cell its own
abbrev pub MaySeeCpu : Image → Facts → ℕ → ℕ → Type 0
MaySeeCpu image f cell cpu = (cell ≡ image.system.root.id) ⊎ ((f.cpu cpu).owner ≡ cell)

-- the answer to a request for information about a CPU, by the first of these: the board lacks it, it is another cell's
-- and root doesn't ask, the kind isn't 0, it has failed
pub record IsCpuAnswer (image : Image) (f : Facts) (cell cpu kind : ℕ) (answer : ℤ) : Type 0 where
  pub absent : is_on_board image cpu ≡ false → answer ≡ EINVAL
  pub foreign : is_on_board image cpu ≡ true → cell ≢ image.system.root.id → (f.cpu cpu).owner ≢ cell → answer ≡ EPERM
  pub wrong : is_on_board image cpu ≡ true → MaySeeCpu image f cell cpu → kind ≢ 0 → answer ≡ EINVAL
  pub failed : is_on_board image cpu ≡ true → MaySeeCpu image f cell cpu → kind ≡ 0 → (f.cpu cpu).mode ≡ Failed → answer ≡ pos 2
  pub good : is_on_board image cpu ≡ true → MaySeeCpu image f cell cpu → kind ≡ 0 → (f.cpu cpu).mode ≢ Failed → answer ≡ pos 0

-- the cell may not switch the CPU, nor be told of it: the board lacks it, or it is another cell's
abbrev pub IsNotOwn : Image → Facts → ℕ → ℕ → Type 0
IsNotOwn image f cell cpu = (is_on_board image cpu ≡ false) ⊎ ((f.cpu cpu).owner ≢ cell)

-- the answer to a request to switch a CPU off: it is granted to a cell besides root, which has no such call
pub record IsOffAnswer (image : Image) (cell : ℕ) (answer : ℤ) : Type 0 where
  pub root : cell ≡ image.system.root.id → answer ≡ ENOSYS
  pub granted : cell ≢ image.system.root.id → answer ≡ pos 0

-- the answer to a request to switch a CPU on: to root ENOSYS; to another cell -2 of a CPU that isn't its own, -4 of one
-- that runs, -3 of one that has failed, and 0 of one that is parked
pub record IsOnAnswer (image : Image) (f : Facts) (cell cpu : ℕ) (answer : ℤ) : Type 0 where
  pub root : cell ≡ image.system.root.id → answer ≡ ENOSYS
  pub foreign : cell ≢ image.system.root.id → IsNotOwn image f cell cpu → answer ≡ negsuc 1
  pub running : cell ≢ image.system.root.id → is_on_board image cpu ≡ true → (f.cpu cpu).owner ≡ cell → (f.cpu cpu).mode ≡ Running → answer ≡ negsuc 3
  pub failed : cell ≢ image.system.root.id → is_on_board image cpu ≡ true → (f.cpu cpu).owner ≡ cell → (f.cpu cpu).mode ≡ Failed → answer ≡ negsuc 2
  pub parked : cell ≢ image.system.root.id → is_on_board image cpu ≡ true → (f.cpu cpu).owner ≡ cell → (f.cpu cpu).mode ≡ Parked → answer ≡ pos 0

-- the answer to a request whether a CPU is on: to root ENOSYS; to another cell -2 of a CPU that isn't its own, or at a
-- level other than 0, and else 0 of one that runs and 1 of another
pub record IsAffinityAnswer (image : Image) (f : Facts) (cell cpu level : ℕ) (answer : ℤ) : Type 0 where
  pub root : cell ≡ image.system.root.id → answer ≡ ENOSYS
  pub foreign : cell ≢ image.system.root.id → IsNotOwn image f cell cpu → answer ≡ negsuc 1
  pub level_is : cell ≢ image.system.root.id → level ≢ 0 → answer ≡ negsuc 1
  pub running : cell ≢ image.system.root.id → is_on_board image cpu ≡ true → (f.cpu cpu).owner ≡ cell → level ≡ 0 → (f.cpu cpu).mode ≡ Running → answer ≡ pos 0
  pub down : cell ≢ image.system.root.id → is_on_board image cpu ≡ true → (f.cpu cpu).owner ≡ cell → level ≡ 0 → (f.cpu cpu).mode ≢ Running → answer ≡ pos 1

-- what the cell's call is answered at once: EPERM where it manages cells and the cell isn't root, ENOSYS where the code is
-- unknown
abbrev pub IsAnswer : Image → Facts → ℕ → Call → ℤ → Type 0
IsAnswer image f cell (Create at) answer = (cell ≢ image.system.root.id) × (answer ≡ EPERM)
IsAnswer image f cell (Start id) answer = (cell ≢ image.system.root.id) × (answer ≡ EPERM)
IsAnswer image f cell (Loadable id) answer = (cell ≢ image.system.root.id) × (answer ≡ EPERM)
IsAnswer image f cell (Destroy id) answer = (cell ≢ image.system.root.id) × (answer ≡ EPERM)
IsAnswer image f cell (Info kind) answer = IsInfoAnswer image f kind answer
IsAnswer image f cell (State id) answer = IsStateAnswer image f cell id answer
IsAnswer image f cell (CpuInfo cpu kind) answer = IsCpuAnswer image f cell cpu kind answer
IsAnswer image f cell CpuOff answer = IsOffAnswer image cell answer
IsAnswer image f cell (CpuOn cpu) answer = IsOnAnswer image f cell cpu answer
IsAnswer image f cell (Affinity cpu level) answer = IsAffinityAnswer image f cell cpu level answer
IsAnswer image f cell Unknown answer = answer ≡ ENOSYS
