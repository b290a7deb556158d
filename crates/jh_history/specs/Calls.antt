-- The management call that is open, by its phases.
use Rattle.std.specs.Prelude.{ℕ, ℤ, pos, Bool, true, false, ◌==◌, ◌&&◌, not, List, [], ◌∷◌, find, Option, Some, None, option_map, if◌then◌else◌}
use Rattle.jh_num.specs.Numbers.{counted_up}
use Rattle.jh_num.specs.declared.error.TheConstants.{EPERM}
use Rattle.jh_cellcfg.specs.declared.config.CellConfig.{CellConfig}
use Rattle.jh_cellcfg.specs.declared.live.Live.{Live}
use Rattle.jh_cellcfg.specs.Lives.{id_of, has_id}
use Rattle.jh_cellcfg.specs.Cells.{is_passive}
use Rattle.jh_call.specs.declared.call.Call.{Call}
use Rattle.jh_call.specs.declared.call.Call.TheVariants.{Create, Start, Loadable, Destroy}
use Rattle.jh_call.specs.Calls.{decoded}
use Rattle.jh_history.specs.declared.call.OpenCall.{OpenCall}
use Rattle.jh_history.specs.declared.call.Phase.{Phase}
use Rattle.jh_history.specs.declared.call.Phase.TheVariants.{ToDecide, ToSettle, ToCreate, ToCommit, ToNote, ToNoted, ToFinish}
use Rattle.jh_history.specs.declared.entry.Entry.{Entry}
use Rattle.jh_history.specs.declared.entry.Settled.{Settled}
use Rattle.jh_history.specs.declared.entry.Settled.TheVariants.{Agreed, Denied, Timeout}
use Rattle.jh_history.specs.declared.entry.Act.{Act}
use Rattle.jh_history.specs.declared.entry.Act.TheVariants.{Begin, Decide, Settle, Commit, Note, Noted, Finish}

-- the call is a start, a set loadable or a destroy of the cell with the id
abbrev pub is_named : Call → ℕ → Bool
is_named (Start cell) id = cell == id
is_named (Loadable cell) id = cell == id
is_named (Destroy cell) id = cell == id
is_named _ id = false

-- a cell of the configuration is told that the cell `about` was created or destroyed: it is another, and isn't passive
abbrev pub is_recipient_by : ℕ → CellConfig → Bool
is_recipient_by about config = not (config.id == about) && not (is_passive config)

-- the cell is told that the cell `about` was created or destroyed: it is another, and isn't passive
abbrev pub is_recipient : ℕ → Live → Bool
is_recipient about live = is_recipient_by about live.config

-- the cells behind the one with the id
abbrev pub listed_behind : ℕ → List Live → List Live
listed_behind id [] = []
listed_behind id (live ∷ lives) = if has_id id live then lives else listed_behind id lives

-- the cell is told next, or, where there is none, the call ends with the answer
abbrev pub telling : ℕ → ℤ → Option ℕ → Phase
telling about answer None = ToFinish answer
telling about answer (Some id) = ToNote id about answer

-- the first of the cells that is told
abbrev pub first_recipient : ℕ → List Live → Option ℕ
first_recipient about cells = option_map id_of (find (is_recipient about) cells)

-- the phase after a Decide: the end where it refuses; else a create goes on with the configuration that was read, and
-- any other call asks its cell; a create for which none was read stays where it is
abbrev pub after_decide : Call → Option CellConfig → Option ℤ → Phase
after_decide call coming (Some refused) = ToFinish refused
after_decide (Create at) (Some config) None = ToCreate config
after_decide (Create at) None None = ToDecide
after_decide call coming None = ToSettle 0

-- the phase after a Settle: the end with EPERM where it is denied, else the Commit
abbrev pub after_settle : Settled → Phase
after_settle Agreed = ToCommit
after_settle Denied = ToFinish EPERM
after_settle Timeout = ToCommit

-- the phase after the Commit: a create and a destroy are told to the other cells, which live before it as after it;
-- else the end with 0
abbrev pub after_commit : Call → Phase → List Live → Phase
after_commit (Create at) (ToCreate config) cells = telling config.id (pos config.id) (first_recipient config.id cells)
after_commit (Destroy id) phase cells = telling id (pos 0) (first_recipient id cells)
after_commit call phase cells = ToFinish (pos 0)

-- the phase after a Note: the cell that was told is waited for
abbrev pub after_note : Phase → Phase
after_note (ToNote id about answer) = ToNoted id about answer 0
after_note phase = phase

-- the phase after a Noted: the next cell is told, or the call ends where there is none
abbrev pub after_noted : Phase → List Live → Phase
after_noted (ToNoted id about answer waited) cells = telling about answer (first_recipient about (listed_behind id cells))
after_noted phase cells = phase

-- the phase waits for an answer of the cell with the id
abbrev pub waits_for : ℕ → Call → Phase → Bool
waits_for cell call (ToSettle waited) = is_named call cell
waits_for cell call (ToNoted id about answer waited) = cell == id
waits_for cell call phase = false

-- the phase, where it waits for a cell, with one entry more that it has waited
abbrev pub waited_on : Phase → Phase
waited_on (ToSettle waited) = ToSettle (counted_up waited)
waited_on (ToNoted id about answer waited) = ToNoted id about answer (counted_up waited)
waited_on phase = phase

-- a phase that waits for a cell's answer counts the entries of that cell's CPUs
abbrev pub counted : ℕ → Call → Phase → Phase
counted cell call phase = if waits_for cell call phase then waited_on phase else phase

-- the phase of the open call after the act of the cell's CPU, where these cells live besides root, and a create reads
-- this configuration
abbrev pub phase_after : List Live → Option CellConfig → ℕ → Call → Phase → Act → Phase
phase_after cells coming cell call phase (Decide refused) = after_decide call coming refused
phase_after cells coming cell call phase (Settle how) = after_settle how
phase_after cells coming cell call phase Commit = after_commit call phase cells
phase_after cells coming cell call phase (Note id) = after_note phase
phase_after cells coming cell call phase (Noted id how) = after_noted phase cells
phase_after cells coming cell call phase act = counted cell call phase

-- the act opens a call, takes the open one a phase further, or closes it
abbrev pub is_of_call : Act → Bool
is_of_call (Begin code a b) = true
is_of_call (Decide refused) = true
is_of_call (Settle how) = true
is_of_call Commit = true
is_of_call (Note id) = true
is_of_call (Noted id how) = true
is_of_call (Finish answer) = true
is_of_call _ = false

-- the call after an entry: opened by a Begin, closed by a Finish, and else in the phase that the act leaves it in, which
-- may be the same
abbrev pub call_by : List Live → Option CellConfig → Option OpenCall → Entry → Act → Option OpenCall
call_by cells coming call entry (Begin code a b) = Some (record { caller = entry.cpu; call = decoded code a b; phase = ToDecide })
call_by cells coming call entry (Finish answer) = None
call_by cells coming call entry act = option_map (λ (o : OpenCall). record { caller = o.caller; call = o.call; phase = phase_after cells coming entry.cell o.call o.phase act }) call
