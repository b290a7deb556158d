-- What a call is refused for at its Decide, by its cause.
use Rattle.std.specs.Prelude.{◌≡◌, ◌≢◌, ◌++◌, ◌∷◌, [], ℕ, ℤ, List, Contains, Option, Some, None}
use Rattle.jh_num.specs.declared.error.TheConstants.{EPERM, ENOENT, EINVAL}
use Rattle.jh_cellcfg.specs.declared.config.CellConfig.{CellConfig}
use Rattle.jh_cellcfg.specs.declared.live.Live.{Live}
use Rattle.jh_cellcfg.specs.declared.fault.ConfigFault.{ConfigFault}
use Rattle.jh_cellcfg.specs.Lives.{id_of}
use Rattle.jh_cellcfg.specs.Faults.{header_fault, size_by_header}
use Rattle.jh_cellcfg.specs.Reading.{config_of}
use Rattle.jh_check.specs.Refusals.{IsAccepted}
use Rattle.jh_shape.specs.Pages.{pages_of}
use Rattle.jh_comm.specs.declared.words.TheConstants.{STATE_RUNNING_LOCKED}
use Rattle.jh_call.specs.declared.call.Call.{Call}
use Rattle.jh_call.specs.declared.call.Call.TheVariants.{Create, Start, Loadable, Destroy}
use Rattle.jh_script.specs.declared.image.Image.{Image}
use Rattle.jh_history.specs.Facts.{Facts}
use Rattle.jh_history.specs.Admitted.{pool_pages}
use Rattle.jh_history.specs.Configs.{bytes_at, refused_for}
use Rattle.jh_history.specs.Phases.{state_word, may_give}
use Rattle.jh_history.specs.ReadView.{refusal_by}
use Rattle.jh_shape.specs.Lives.{configs_of}

-- the cell lives besides root, and is locked
abbrev pub LivesLocked : Facts → Live → Type 0
LivesLocked f live = Contains f.cells live × (state_word f (id_of live) ≡ STATE_RUNNING_LOCKED)

-- no cell that lives besides root is locked
abbrev pub NoneIsLocked : Facts → Type 0
NoneIsLocked f = (live : Live) → Contains f.cells live → state_word f (id_of live) ≢ STATE_RUNNING_LOCKED

-- no cell that lives besides root, but the one with the id, is locked
abbrev pub NoOtherIsLocked : Facts → ℕ → Type 0
NoOtherIsLocked f id = (live : Live) → Contains f.cells live → id_of live ≢ id → state_word f (id_of live) ≢ STATE_RUNNING_LOCKED

-- no cell besides root has the id
abbrev pub LivesNot : Facts → ℕ → Type 0
LivesNot f id = (config : CellConfig) → Contains (configs_of f.cells) config → config.id ≢ id

-- what a start, a set loadable or a destroy is refused for by its id: root's, and one that no cell has
pub record IsIdRefusal (image : Image) (f : Facts) (id : ℕ) (refused : Option ℤ) : Type 0 where
  pub root : id ≡ image.system.root.id → refused ≡ Some EINVAL
  pub none : id ≢ image.system.root.id → LivesNot f id → refused ≡ Some ENOENT

-- what a start or a set loadable is refused for: root's id, and one that no cell has
pub record IsIdDecision (image : Image) (f : Facts) (id : ℕ) (refused : Option ℤ) : Type 0 where
  pub id_refused : IsIdRefusal image f id refused
  pub goes : (config : CellConfig) → Contains (configs_of f.cells) config → config.id ≡ id → refused ≡ None

-- what a destroy is refused for: root's id, one that no cell has, and then another cell that is locked
pub record IsDestroyDecision (image : Image) (f : Facts) (id : ℕ) (refused : Option ℤ) : Type 0 where
  pub id_refused : IsIdRefusal image f id refused
  pub locked : (config : CellConfig) (other : Live) → Contains (configs_of f.cells) config → config.id ≡ id → LivesLocked f other → id_of other ≢ id → refused ≡ Some EPERM
  pub goes : (config : CellConfig) → Contains (configs_of f.cells) config → config.id ≡ id → NoOtherIsLocked f id → refused ≡ None

-- what a create is refused for where no configuration is read: root may not read its 132 bytes of header, the header
-- has a fault, or root may not read all of it
pub record IsReadRefusal (image : Image) (f : Facts) (at : ℕ) (refused : Option ℤ) : Type 0 where
  pub header : bytes_at image f at 132 ≡ None → refused ≡ Some EINVAL
  pub fault : (header : List ℕ) (fault : ConfigFault) → bytes_at image f at 132 ≡ Some header → header_fault header ≡ Some fault → refused ≡ Some (refused_for fault)
  pub rest : (header : List ℕ) → bytes_at image f at 132 ≡ Some header → header_fault header ≡ None → bytes_at image f at (size_by_header header) ≡ None → refused ≡ Some EINVAL

-- what a configuration that was read is refused for: the first cause that holds, or none
pub record IsConfigRefusal (image : Image) (f : Facts) (caller : ℕ) (config : CellConfig) (refused : Option ℤ) : Type 0 where
  pub cause : refused ≡ refusal_by image (configs_of f.cells) (may_give image f caller) config
  pub goes : IsAccepted image.system (configs_of f.cells) config (may_give image f caller) (pages_of image.system.root.memory_regions (configs_of f.cells ++ config ∷ [])) (pool_pages image.system)
      → refused ≡ None

-- what a create is refused for: a cell that is locked, else what can't be read, and else what refuses the configuration
-- that was read
pub record IsCreateDecision (image : Image) (f : Facts) (caller at : ℕ) (refused : Option ℤ) : Type 0 where
  pub locked : (live : Live) → LivesLocked f live → refused ≡ Some EPERM
  pub unread : NoneIsLocked f → IsReadRefusal image f at refused
  pub read : NoneIsLocked f → (header bytes : List ℕ) → bytes_at image f at 132 ≡ Some header → header_fault header ≡ None
      → bytes_at image f at (size_by_header header) ≡ Some bytes → IsConfigRefusal image f caller (config_of bytes) refused

-- what the call is refused for at its Decide, if for anything
abbrev pub IsDecision : Image → Facts → ℕ → Call → Option ℤ → Type 0
IsDecision image f caller (Create at) refused = IsCreateDecision image f caller at refused
IsDecision image f caller (Start id) refused = IsIdDecision image f id refused
IsDecision image f caller (Loadable id) refused = IsIdDecision image f id refused
IsDecision image f caller (Destroy id) refused = IsDestroyDecision image f id refused
IsDecision image f caller call refused = ⊥
