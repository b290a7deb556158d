-- The phases of an open management call: what is due to its caller, and when.
use Rattle.std.specs.Prelude.{ℕ, ℤ, Bool, ◌==◌, ◌&&◌, ◌||◌, not, nat_le, Option, Some, None, option_map, option_and_then, is_some, if◌then◌else◌}
use Rattle.std.specs.List.{list_any}
use Rattle.jh_num.specs.declared.error.TheConstants.{EPERM, ENOENT, EINVAL}
use Rattle.jh_cellcfg.specs.declared.config.CellConfig.{CellConfig}
use Rattle.jh_cellcfg.specs.declared.live.Live.{Live}
use Rattle.jh_cellcfg.specs.Cells.{is_passive}
use Rattle.jh_num.specs.Below.{any_below}
use Rattle.jh_shape.specs.Lives.{configs_of}
use Rattle.jh_cpu.specs.declared.cpu.Cpu.{Cpu}
use Rattle.jh_comm.specs.Page.{reply_in}
use Rattle.jh_comm.specs.declared.words.TheConstants.{STATE_SHUT_DOWN, STATE_FAILED, REPLY_REQUEST_APPROVED, REPLY_RECEIVED}
use Rattle.jh_call.specs.declared.call.Call.{Call}
use Rattle.jh_call.specs.declared.call.Call.TheVariants.{Create, Start, Loadable, Destroy}
use Rattle.jh_script.specs.declared.image.Image.{Image}
use Rattle.jh_history.specs.declared.place.Place.TheVariants.{Page}
use Rattle.jh_history.specs.declared.call.Creation.{Creation}
use Rattle.jh_history.specs.declared.call.Creation.TheVariants.{Refused, Accepted}
use Rattle.jh_history.specs.declared.call.Phase.{Phase}
use Rattle.jh_history.specs.declared.call.Phase.TheVariants.{ToDecide, ToSettle, ToCreate, ToCommit, ToNote, ToNoted, ToFinish}
use Rattle.jh_history.specs.declared.entry.Settled.{Settled}
use Rattle.jh_history.specs.declared.entry.Settled.TheVariants.{Agreed, Denied, Timeout}
use Rattle.jh_history.specs.declared.entry.Heard.{Heard}
use Rattle.jh_history.specs.declared.entry.Heard.TheVariants.{Received, Down, Other, Timeout as Unheard}
use Rattle.jh_history.specs.declared.entry.Act.{Act}
use Rattle.jh_history.specs.declared.entry.Act.TheVariants.{Decide, Settle, Commit, Note, Noted, Finish}
use Rattle.jh_history.specs.Facts.{Facts}
use Rattle.jh_history.specs.Lives.{is_on_board, live_in, cell_of}
use Rattle.jh_history.specs.LiveView.{state_word_by, is_locked_by, is_other_locked_by}
use Rattle.jh_history.specs.ReadView.{gives_by, refusal_by}
use Rattle.jh_history.specs.Cpus.{is_running}
use Rattle.jh_history.specs.Calls.{is_named}
use Rattle.jh_history.specs.Pages.{named_cell}
use Rattle.jh_history.specs.declared.reading.ReadCell.{ReadCell}
use Rattle.jh_history.specs.declared.reading.ReadCell.TheVariants.{Reads, Refuses}
use Rattle.jh_history.specs.Configs.{read_at}

-- the state word of the cell with the id, in its communication page
abbrev pub state_word : Facts → ℕ → ℕ
state_word facts id = state_word_by facts.byte id

-- the reply word of the cell with the id, in its communication page
abbrev pub reply_word : Facts → ℕ → ℕ
reply_word facts id = reply_in (λ k. facts.byte (Page id k))

-- the Decide waits for the CPU: another of root's that runs, and hasn't stopped
abbrev pub keeps_decide : Image → ℕ → ℕ → Cpu → Bool
keeps_decide image caller i cpu = is_on_board image i && not (i == caller) && (cpu.owner == image.system.root.id) && is_running cpu.mode && not cpu.stopped

-- the Commit waits for the CPU: one of the call's cell that runs, and hasn't stopped
abbrev pub keeps_commit : Image → Call → ℕ → Cpu → Bool
keeps_commit image call i cpu = is_on_board image i && is_named call cpu.owner && is_running cpu.mode && not cpu.stopped

-- the cell, which lives besides root, is locked: its state is RUNNING_LOCKED
abbrev pub is_locked : Facts → Live → Bool
is_locked facts live = is_locked_by facts.byte live.config

-- the cell, which lives besides root and is another than the one with the id, is locked
abbrev pub is_other_locked : Facts → ℕ → Live → Bool
is_other_locked facts id live = is_other_locked_by facts.byte id live.config

-- the caller may give the CPU away: it is another of root's
abbrev pub may_give : Image → Facts → ℕ → ℕ → Bool
may_give image facts caller cpu = gives_by image caller cpu (facts.cpu cpu)

-- the cell comes, unless it is refused
abbrev pub unless_refused : CellConfig → Option ℤ → Creation
unless_refused config None = Accepted config
unless_refused config (Some number) = Refused number

-- a configuration that was read is refused by its own order of causes, in which the pages are those of all cells
-- with it
abbrev pub creation_by : Image → Facts → ℕ → ReadCell → Creation
creation_by image facts caller (Refuses number) = Refused number
creation_by image facts caller (Reads config) =
    unless_refused config (refusal_by image (configs_of facts.cells) (may_give image facts caller) config)

-- what comes of a create at the address: it is refused where a cell is locked, and else by its configuration
unfoldable pub creation_of : Image → Facts → ℕ → ℕ → Creation
creation_of image facts caller at =
    if list_any (is_locked facts) facts.cells then Refused EPERM else creation_by image facts caller (read_at image facts at)

-- the number that a create is refused with, if it is refused
abbrev pub refused_by : Creation → Option ℤ
refused_by (Refused number) = Some number
refused_by (Accepted config) = None

-- the number that an id is refused with: one that no live cell has, and root's
abbrev pub id_refusal : Image → Facts → ℕ → Option ℤ
id_refusal image facts id = if is_some (cell_of image facts id) then (if id == image.system.root.id then Some EINVAL else None) else Some ENOENT

-- the number that a destroy is refused with: for its id, or else where another cell is locked
abbrev pub first_refusal : Option ℤ → Bool → Option ℤ
first_refusal (Some number) locked = Some number
first_refusal None locked = if locked then Some EPERM else None

-- what the call is refused for at its Decide: a create by what comes of it, a destroy where another cell is locked,
-- after its id
abbrev pub decision : Image → Facts → ℕ → Call → Option ℤ
decision image facts caller (Create at) = refused_by (creation_of image facts caller at)
decision image facts caller (Destroy id) = first_refusal (id_refusal image facts id) (list_any (is_other_locked facts id) facts.cells)
decision image facts caller (Start id) = id_refusal image facts id
decision image facts caller (Loadable id) = id_refusal image facts id
decision image facts caller call = None

-- a cell in this state is down: it is SHUT_DOWN or FAILED
abbrev pub is_down : ℕ → Bool
is_down state = (state == STATE_SHUT_DOWN) || (state == STATE_FAILED)

-- the cell has had its time: so many entries of its CPUs, where it has a time-out, or nothing is due to any CPU but the
-- caller
abbrev pub is_over : ℕ → ℕ → Bool → Bool
is_over timeout waited idle = (not (timeout == 0) && nat_le timeout waited) || idle

-- how the cell met the request to shut down, by the first that holds; nothing yet where none does
abbrev pub settled_by : Bool → ℕ → ℕ → Bool → Option Settled
settled_by passive state reply over =
    if passive || is_down state then Some Agreed
    else (if reply == REPLY_REQUEST_APPROVED then Some Agreed
    else (if not (reply == 0) then Some Denied
    else (if over then Some Timeout else None)))

-- how the call's cell met the request to shut down, where these facts hold; nothing yet where it hasn't
abbrev pub settled_of : Facts → Bool → Call → ℕ → Option Settled
settled_of facts idle call waited =
    option_and_then (λ (c : CellConfig). settled_by (is_passive c) (state_word facts c.id) (reply_word facts c.id) (is_over c.msg_reply_timeout waited idle)) (named_cell facts.cells call)

-- how the cell met the note of a change, by the first that holds; nothing yet where none does
abbrev pub heard_by : ℕ → ℕ → Bool → Option Heard
heard_by state reply over =
    if is_down state then Some Down
    else (if reply == REPLY_RECEIVED then Some Received
    else (if not (reply == 0) then Some Other
    else (if over then Some Unheard else None)))

-- how the cell with the id met the note of a change, where these facts hold; nothing yet where it hasn't
abbrev pub heard_of : Facts → Bool → ℕ → ℕ → Option Heard
heard_of facts idle id waited =
    option_and_then (λ (c : CellConfig). heard_by (state_word facts id) (reply_word facts id) (is_over c.msg_reply_timeout waited idle)) (live_in facts.cells id)

-- what is due to the caller in the phase
abbrev pub phase_act : Image → Facts → Bool → ℕ → Call → Phase → Option Act
phase_act image facts idle caller call ToDecide =
    if any_below (λ i. keeps_decide image caller i (facts.cpu i)) 16 then None else Some (Decide (decision image facts caller call))
phase_act image facts idle caller call (ToSettle waited) = option_map (λ (how : Settled). Settle how) (settled_of facts idle call waited)
phase_act image facts idle caller call (ToCreate config) = Some Commit
phase_act image facts idle caller call ToCommit = if any_below (λ i. keeps_commit image call i (facts.cpu i)) 16 then None else Some Commit
phase_act image facts idle caller call (ToNote id about answer) = Some (Note id)
phase_act image facts idle caller call (ToNoted id about answer waited) = option_map (λ (how : Heard). Noted id how) (heard_of facts idle id waited)
phase_act image facts idle caller call (ToFinish answer) = Some (Finish answer)
