-- What an entry writes into the communication page of a cell, for the hypervisor.
use Rattle.std.specs.Prelude.{ℕ, Bool, true, false, ◌==◌, ◌&&◌, ◌||◌, not, nat_lt, List, Option, Some, None, option_map, option_and_then, is_some, if◌then◌else◌}
use Rattle.jh_comm.specs.Page.{with_state, sent, fresh_page}
use Rattle.jh_comm.specs.declared.words.TheConstants.{STATE_RUNNING, STATE_SHUT_DOWN, STATE_FAILED, MESSAGE_SHUTDOWN_REQUEST, MESSAGE_RECONFIG_COMPLETED}
use Rattle.jh_cellcfg.specs.declared.config.CellConfig.{CellConfig}
use Rattle.jh_cellcfg.specs.declared.live.Live.{Live}
use Rattle.jh_cellcfg.specs.Cells.{is_passive}
use Rattle.jh_num.specs.Below.{any_below}
use Rattle.jh_cpu.specs.declared.cpu.Cpu.{Cpu}
use Rattle.jh_cpu.specs.Changes.{is_failed}
use Rattle.jh_call.specs.declared.call.Call.{Call}
use Rattle.jh_call.specs.declared.call.Call.TheVariants.{Create, Start, Loadable, Destroy}
use Rattle.jh_script.specs.declared.image.Image.{Image}
use Rattle.jh_history.specs.declared.call.OpenCall.{OpenCall}
use Rattle.jh_history.specs.declared.call.Phase.{Phase}
use Rattle.jh_history.specs.declared.call.Phase.TheVariants.{ToCreate}
use Rattle.jh_history.specs.declared.comm.PageChange.{PageChange}
use Rattle.jh_history.specs.declared.comm.PageChange.TheVariants.{State, Message, Fresh}
use Rattle.jh_history.specs.declared.comm.PageWrite.{PageWrite}
use Rattle.jh_history.specs.declared.place.Place.{Place}
use Rattle.jh_history.specs.declared.place.Place.TheVariants.{Physical, Page}
use Rattle.jh_history.specs.declared.entry.Entry.{Entry}
use Rattle.jh_history.specs.declared.entry.Settled.TheVariants.{Timeout}
use Rattle.jh_history.specs.declared.entry.Heard.TheVariants.{Timeout as Unheard}
use Rattle.jh_history.specs.declared.entry.Act.{Act}
use Rattle.jh_history.specs.declared.entry.Act.TheVariants.{Read, Write, Fetch, Await, Decide, Settle, Commit, Note, Noted}
use Rattle.jh_history.specs.Facts.{Facts}
use Rattle.jh_history.specs.Lives.{is_on_board, live_in}
use Rattle.jh_history.specs.Cpus.{cpu_after}

-- the page after the change, by offset
abbrev pub page_after : PageChange → (ℕ → ℕ) → ℕ → ℕ
page_after (State state) page = with_state page state
page_after (Message message) page = sent page message
page_after (Fresh state console window) page = fresh_page state console window

-- the bytes, with the 4,096 of that cell's page changed
abbrev pub with_page : PageWrite → (Place → ℕ) → Place → ℕ
with_page write byte (Physical p) = byte (Physical p)
with_page write byte (Page cell offset) =
    if (cell == write.cell) && nat_lt offset 4096
    then page_after write.change (λ k. byte (Page cell k)) offset
    else byte (Page cell offset)

-- a write into the page of the cell
abbrev pub on_page : PageChange → CellConfig → PageWrite
on_page change config = record { cell = config.id; change = change }

-- the live cell that the call names
abbrev pub named_cell : List Live → Call → Option CellConfig
named_cell cells (Start id) = live_in cells id
named_cell cells (Loadable id) = live_in cells id
named_cell cells (Destroy id) = live_in cells id
named_cell cells call = None

-- the CPU is the cell's, and hasn't failed
abbrev pub is_unfailed_of : ℕ → Cpu → Bool
is_unfailed_of cell cpu = (cpu.owner == cell) && not (is_failed cpu.mode)

-- what an entry writes into the page of its cell where it is a violation: the state FAILED, where all CPUs of a cell
-- besides root have failed after it
abbrev pub failing : Image → Facts → Entry → Option PageWrite
failing image facts entry =
    if (entry.cell == image.system.root.id) || any_below (λ i. is_on_board image i && is_unfailed_of entry.cell (cpu_after image facts entry i)) 16
    then None
    else Some (record { cell = entry.cell; change = State STATE_FAILED })

-- the write into a page, unless the access succeeded
abbrev pub unless_good : Bool → Option PageWrite → Option PageWrite
unless_good true write = None
unless_good false write = write

-- what a Decide that goes on writes into a page: the cell is asked to shut down, unless it is passive
abbrev pub asking : List Live → Call → Option PageWrite
asking cells call = option_and_then (λ (c : CellConfig). if is_passive c then None else Some (on_page (Message MESSAGE_SHUTDOWN_REQUEST) c)) (named_cell cells call)

-- what a Commit writes into a page: of a create and of a start a fresh page, of a set loadable the state SHUT_DOWN
abbrev pub committing : ℕ → List Live → Call → Phase → Option PageWrite
committing window cells (Create at) (ToCreate config) = Some (on_page (Fresh STATE_SHUT_DOWN config.console window) config)
committing window cells (Start id) phase = option_map (λ (c : CellConfig). on_page (Fresh STATE_RUNNING c.console window) c) (live_in cells id)
committing window cells (Loadable id) phase = option_map (on_page (State STATE_SHUT_DOWN)) (live_in cells id)
committing window cells call phase = None

-- what the entry writes into a page, and into which: a time-out is the state FAILED, a Note is a message
abbrev pub page_write_by : Image → Facts → Entry → Act → Option PageWrite
page_write_by image facts entry (Read width at got) = unless_good (is_some got) (failing image facts entry)
page_write_by image facts entry (Write width at value ok) = unless_good ok (failing image facts entry)
page_write_by image facts entry (Fetch at got) = unless_good (is_some got) (failing image facts entry)
page_write_by image facts entry (Await width at value ok) = unless_good ok (failing image facts entry)
page_write_by image facts entry (Decide None) = option_and_then (λ (o : OpenCall). asking facts.cells o.call) facts.call
page_write_by image facts entry (Settle Timeout) = option_and_then (λ (o : OpenCall). option_map (on_page (State STATE_FAILED)) (named_cell facts.cells o.call)) facts.call
page_write_by image facts entry Commit = option_and_then (λ (o : OpenCall). committing image.system.platform.pci_mmconfig_base facts.cells o.call o.phase) facts.call
page_write_by image facts entry (Note id) = Some (record { cell = id; change = Message MESSAGE_RECONFIG_COMPLETED })
page_write_by image facts entry (Noted id Unheard) = Some (record { cell = id; change = State STATE_FAILED })
page_write_by image facts entry act = None

-- the bytes after the write into a page, if there is one
abbrev pub with_page_write : Option PageWrite → (Place → ℕ) → Place → ℕ
with_page_write None byte = byte
with_page_write (Some write) byte = with_page write byte
