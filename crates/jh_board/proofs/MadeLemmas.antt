-- What the entry's act does to the live cells and to the call that is open, put together.
use Rattle.std.proofs.Common.{◌≡◌, ◌≤◌, List, Option, Some, None, false, refl, arith}
use Rattle.std.proofs.lemmas.Bool.{true≢false}
use Rattle.std.specs.Option.{option_map_or}
use Rattle.jh_cellcfg.specs.declared.config.CellConfig.{CellConfig}
use Rattle.jh_cellcfg.specs.declared.live.Live.{Live}
use Rattle.jh_call.specs.declared.call.Call.{Call}
use Rattle.jh_call.specs.declared.call.Call.TheVariants.{Create}
use Rattle.jh_history.specs.declared.call.OpenCall.{OpenCall}
use Rattle.jh_history.specs.declared.call.Phase.{Phase}
use Rattle.jh_history.specs.declared.call.Phase.TheVariants.{ToCreate}
use Rattle.jh_history.specs.declared.entry.Entry.{Entry}
use Rattle.jh_history.specs.declared.entry.Act.{Act}
use Rattle.jh_history.specs.declared.entry.Act.TheVariants.{Commit}
use Rattle.jh_history.specs.Commits.{committed_cells, cells_by, created, created_at, created_by}
use Rattle.jh_history.specs.Calls.{call_by, is_of_call}
use Rattle.jh_history.specs.Endpoints.{changing_at, changing_by}
use Rattle.jh_board.specs.declared.held.Held.{Held}
use Rattle.jh_board.specs.declared.steps.CellsChange.{CellsChange}
use Rattle.jh_board.specs.declared.steps.CellsChange.TheVariants.{Keep}
use Rattle.jh_board.specs.Means.{IsReadyToGoOn}
use Rattle.jh_board.specs.Private.Steps.{change_of_call, change_of_cells, changed_cells, joined_cells}
use Rattle.jh_board.proofs.ReadyLemmas.{ready_committed}
use Rattle.jh_board.proofs.KeptLemmas.{KeepsPages, ready_kept}

-- the cells that a Commit leaves
cells_committed : (call : Call) (phase : Phase) (cells : List Live) → option_map_or (joined_cells cells) (created call phase) (changed_cells (change_of_call call) cells) ≡ committed_cells call phase cells
cells_committed (Create at) (ToCreate config) cells = refl
cells_committed call phase cells = refl

-- the cells that the act leaves
pub cells_made : (call : Option OpenCall) (cells : List Live) (act : Act) → option_map_or (joined_cells cells) (created_by call act) (changed_cells (change_of_cells call act) cells) ≡ cells_by call cells act
cells_made None cells Commit = refl
cells_made (Some o) cells Commit = cells_committed o.call o.phase cells
cells_made call cells act = refl

none_made : (call : Option OpenCall) (act : Act) → ((o : OpenCall) → created_at o.call o.phase act ≡ None) → created_by call act ≡ None
none_made None act h = refl
none_made (Some o) act h = h o

-- an act that is none of the call's own makes no cell, and changes none
pub nothing_made : (call : Option OpenCall) (cells : List Live) (act : Act) → is_of_call act ≡ false → (created_by call act ≡ None) × (cells_by call cells act ≡ cells)
nothing_made call cells Commit other = absurd (true≢false other)
nothing_made call cells act other = (none_made call act (λ o. refl), refl)

-- the live cells and the regions of the one that comes stay as they are, where no cell comes and none changes
abbrev pub KeepsCells : Held → Held → Option CellConfig → CellsChange → Type 0
KeepsCells old new made change = made ≡ None → change ≡ Keep → (new.cells ≡ old.cells) × (new.coming_regions ≡ old.coming_regions)

ready_committed_call : (held : Held) (cells : List Live) (coming : Option CellConfig) (call : Option OpenCall) (entry : Entry) → IsReadyToGoOn held (call_by cells coming call entry Commit)
ready_committed_call held cells coming None entry = tt
ready_committed_call held cells coming (Some o) entry = ready_committed held o.call cells o.phase

-- what is held stays ready for what the call goes on to do
pub ready_made : (old new : Held) (cells : List Live) (coming : Option CellConfig) (call : Option OpenCall) (entry : Entry) (act : Act) → old.endpoints.spare ≤ new.endpoints.spare → KeepsPages old.memory new.memory
    → KeepsCells old new (created_by call act) (change_of_cells call act) → IsReadyToGoOn old (call_by cells coming call entry act) → IsReadyToGoOn new (call_by cells coming call entry act)
ready_made old new cells coming call entry Commit spare pages same h = ready_committed_call new cells coming call entry
ready_made old new cells coming call entry act spare pages same h = let kept = same (none_made call act (λ o. refl)) refl in ready_kept old new (call_by cells coming call entry act) kept.1 kept.0 spare pages h

not_changing : (cells : List Live) (call : Option OpenCall) (act : Act) → ((o : OpenCall) → changing_at cells o act ≡ None) → changing_by cells call act ≡ None
not_changing cells None act h = refl
not_changing cells (Some o) act h = h o

-- the room for more endpoints stays, where no devices change
abbrev pub KeepsRoom : Held → Held → Option CellConfig → Type 0
KeepsRoom old new changing = changing ≡ None → new.endpoints.spare ≡ old.endpoints.spare

ready_room : (old new : Held) (call changed : Option OpenCall) (cells : List Live) (act : Act) → new.coming_regions ≡ old.coming_regions → new.cells ≡ old.cells → KeepsRoom old new (changing_by cells call act) → KeepsPages old.memory new.memory
    → ((o : OpenCall) → changing_at cells o act ≡ None) → IsReadyToGoOn old changed → IsReadyToGoOn new changed
ready_room old new call changed cells act regions same room pages none h =
    let kept : new.endpoints.spare ≡ old.endpoints.spare = room (not_changing cells call act none) in
    ready_kept old new changed regions same (omega arith) pages h

-- so it does after what the act does to memory and to devices
pub ready_written : (old new : Held) (cells : List Live) (coming : Option CellConfig) (call : Option OpenCall) (entry : Entry) (act : Act) → new.coming_regions ≡ old.coming_regions → new.cells ≡ old.cells
    → KeepsRoom old new (changing_by cells call act) → KeepsPages old.memory new.memory → IsReadyToGoOn old (call_by cells coming call entry act) → IsReadyToGoOn new (call_by cells coming call entry act)
ready_written old new cells coming call entry Commit regions same room pages h = ready_committed_call new cells coming call entry
ready_written old new cells coming call entry act regions same room pages h = ready_room old new call (call_by cells coming call entry act) cells act regions same room pages (λ o. refl) h
