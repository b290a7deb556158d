-- Which cells live after an entry.
use Rattle.std.specs.Prelude.{ℕ, Bool, true, false, not, List, [], ◌∷◌, ◌++◌, map, filter, Option, Some, None, option_and_then}
use Rattle.std.specs.Option.{option_map_or}
use Rattle.jh_cellcfg.specs.declared.config.CellConfig.{CellConfig}
use Rattle.jh_cellcfg.specs.declared.live.Live.{Live}
use Rattle.jh_cellcfg.specs.Lives.{has_id}
use Rattle.jh_shape.specs.Lives.{marked, new_live}
use Rattle.jh_call.specs.declared.call.Call.{Call}
use Rattle.jh_call.specs.declared.call.Call.TheVariants.{Create, Start, Loadable, Destroy}
use Rattle.jh_history.specs.declared.call.OpenCall.{OpenCall}
use Rattle.jh_history.specs.declared.call.Phase.{Phase}
use Rattle.jh_history.specs.declared.call.Phase.TheVariants.{ToCreate}
use Rattle.jh_history.specs.declared.entry.Act.{Act}
use Rattle.jh_history.specs.declared.entry.Act.TheVariants.{Commit}

-- the cell is another than the one with the id
abbrev pub is_other : ℕ → Live → Bool
is_other id live = not (has_id id live)

-- by the Commit of a create the new cell lives, last in order and not loadable; by a start the cell isn't loadable
-- any more, by a set loadable it is, and by a destroy it doesn't live
abbrev pub committed_cells : Call → Phase → List Live → List Live
committed_cells (Create at) (ToCreate config) cells = cells ++ new_live config ∷ []
committed_cells (Start id) phase cells = map (marked id false) cells
committed_cells (Loadable id) phase cells = map (marked id true) cells
committed_cells (Destroy id) phase cells = filter (is_other id) cells
committed_cells call phase cells = cells

-- the act is a Commit, as no other act changes which cells live
abbrev pub is_commit : Act → Bool
is_commit Commit = true
is_commit act = false

-- the cells after the act, where this call is open before it
abbrev pub cells_by : Option OpenCall → List Live → Act → List Live
cells_by call cells Commit = option_map_or (λ (o : OpenCall). committed_cells o.call o.phase cells) call cells
cells_by call cells act = cells

-- the configuration of the cell that the Commit of the call creates
abbrev pub created : Call → Phase → Option CellConfig
created (Create at) (ToCreate config) = Some config
created call phase = None

-- the configuration of the cell that the act creates, in this phase of the call
abbrev pub created_at : Call → Phase → Act → Option CellConfig
created_at call phase Commit = created call phase
created_at call phase act = None

-- the configuration of the cell that the act creates, by the call that is open, if one is
abbrev pub created_by : Option OpenCall → Act → Option CellConfig
created_by call act = option_and_then (λ (o : OpenCall). created_at o.call o.phase act) call
