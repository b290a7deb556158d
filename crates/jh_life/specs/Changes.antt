-- What befalls the cells besides root, told by their ids.
use Rattle.std.specs.Prelude.{◌≡◌, ℕ, Bool, false, not, ◌==◌, List, [], ◌∷◌, ◌++◌, map, filter, Option, Some, None, option_map, slice_set, if◌then◌else◌}
use Rattle.std.specs.List.{find, list_any}
use Rattle.jh_cellcfg.specs.declared.config.CellConfig.{CellConfig}
use Rattle.jh_cellcfg.specs.declared.live.Live.{Live}
use Rattle.jh_cellcfg.specs.Lives.{has_id}
use Rattle.jh_shape.specs.Lives.{configs_of, marked, new_live, marks_of}

-- a cell is created; the cell with the id is dropped; or it becomes loadable, or isn't so any longer
pub data CellChange : Type 0 where
  Created : CellConfig → CellChange
  Dropped : ℕ → CellChange
  Marked : ℕ → Bool → CellChange

-- of the live cells the one at the index has its mark put so, and nothing else is changed
pub record IsMarkedAt (index : ℕ) (on : Bool) (lives new : List Live) : Type 0 where
  pub configs : configs_of new ≡ configs_of lives
  pub marks : marks_of new ≡ slice_set (marks_of lives) index on

-- the live cells but the one with the id
abbrev pub without : ℕ → List Live → List Live
without id lives = filter (λ (live : Live). not (has_id id live)) lives

-- the live cells after the change: a new cell is the last one, and the others stay in order
abbrev pub after : List Live → CellChange → List Live
after lives (Created config) = lives ++ new_live config ∷ []
after lives (Dropped id) = without id lives
after lives (Marked id on) = map (marked id on) lives

-- what one change tells of the cell with the id alone, of which so much was known
abbrev pub live_after : ℕ → Option Live → CellChange → Option Live
live_after id known (Created config) = if config.id == id then Some (new_live config) else known
live_after id known (Dropped gone) = if gone == id then None else known
live_after id known (Marked set on) = if set == id then option_map (λ (live : Live). record { config = live.config; loadable = on }) known else known

-- no cell is created whose id lives
abbrev pub AreNew : List Live → List CellChange → Type 0
AreNew lives [] = Unit {0}
AreNew lives (Created config ∷ changes) = (find (has_id config.id) lives ≡ None) × AreNew (after lives (Created config)) changes
AreNew lives (Dropped id ∷ changes) = AreNew (after lives (Dropped id)) changes
AreNew lives (Marked id on ∷ changes) = AreNew (after lives (Marked id on)) changes

-- the change drops the cell with the id
abbrev pub drops : ℕ → CellChange → Bool
drops id (Created config) = false
drops id (Dropped gone) = gone == id
drops id (Marked set on) = false

-- none of the changes drops the cell
abbrev pub is_never_dropped : List CellChange → CellConfig → Bool
is_never_dropped changes config = not (list_any (drops config.id) changes)

-- the cells that are created and not dropped later, in order of creation
abbrev pub lasting : List CellChange → List CellConfig
lasting [] = []
lasting (Created config ∷ changes) = if is_never_dropped changes config then config ∷ lasting changes else lasting changes
lasting (Dropped id ∷ changes) = lasting changes
lasting (Marked id on ∷ changes) = lasting changes
