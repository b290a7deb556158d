-- What is due to a CPU, and which journals are legal and quiet.
use Rattle.std.specs.Prelude.{◌≡◌, ℕ, true, false, ◌==◌, if◌then◌else◌, List, [], ◌∷◌, Option, Some, None, option_map, option_and_then, is_some, Bool, ◌&&◌, not}
use Rattle.std.specs.Option.{option_map_or}
use Rattle.jh_num.specs.Below.{any_below}
use Rattle.jh_cpu.specs.declared.cpu.Cpu.{Cpu}
use Rattle.jh_ivshmem.specs.declared.endpoint.Endpoint.{Endpoint}
use Rattle.jh_ivshmem.specs.Links.{pending_of}
use Rattle.jh_script.specs.declared.image.Image.{Image}
use Rattle.jh_history.specs.declared.form.Form.{Form}
use Rattle.jh_script.specs.declared.op.Op.{Op}
use Rattle.jh_script.specs.declared.op.Op.TheVariants.{Read as ReadOp, Write as WriteOp, Fetch as FetchOp, Await as AwaitOp, Irq as IrqOp, Hvc as HvcOp}
use Rattle.jh_history.specs.declared.access.Access.{Access}
use Rattle.jh_history.specs.declared.access.Access.TheVariants.{Read as ToRead, Write as ToWrite, Fetch as ToFetch}
use Rattle.jh_history.specs.declared.call.OpenCall.{OpenCall}
use Rattle.jh_history.specs.declared.entry.Entry.{Entry}
use Rattle.jh_history.specs.declared.entry.Act.{Act}
use Rattle.jh_history.specs.declared.entry.Act.TheVariants.{Read, Write, Fetch, Await, Irq, Stop}
use Rattle.jh_history.specs.Access.{read_of, is_reached}
use Rattle.jh_history.specs.Facts.{Facts}
use Rattle.jh_history.specs.Lives.{is_on_board}
use Rattle.jh_history.specs.Grants.{reach, devices_of}
use Rattle.jh_history.specs.Phases.{phase_act}
use Rattle.jh_history.specs.Hypercalls.{hvc_act}
use Rattle.jh_history.specs.Wants.{pending_op, goes_on}
use Rattle.jh_history.specs.History.{start, after, facts}

-- what an await comes to by what it reads: a violation where that is nothing, and not due where it is another value
abbrev pub await_of : ℕ → ℕ → ℕ → Option ℕ → Option Act
await_of width at value None = Some (Await width at value false)
await_of width at value (Some got) = if got == value then Some (Await width at value true) else None

-- an interrupt is due where a vector of a device of the cell is pending: it takes that of the lowest device, then the
-- lowest
abbrev pub irq_of : ℕ → List Endpoint → Option Act
irq_of cell endpoints = option_map (λ (next : ℕ × ℕ). Irq next.0 next.1) (pending_of cell endpoints)

-- what the cell reads by the access
abbrev pub got_by : Image → Facts → ℕ → Access → ℕ → ℕ → Option ℕ
got_by image facts cell access at width = read_of facts.byte (devices_of image facts cell) (reach image facts cell access at width)

-- what the cell's operation comes to, where it is due
abbrev pub act_of : Image → Facts → ℕ → Op → Option Act
act_of image facts cell (ReadOp width at) = Some (Read width at (got_by image facts cell ToRead at width))
act_of image facts cell (WriteOp width at value) = Some (Write width at value (is_reached (reach image facts cell ToWrite at width)))
act_of image facts cell (FetchOp at) = Some (Fetch at (got_by image facts cell ToFetch at 4))
act_of image facts cell (AwaitOp width at value) = await_of width at value (got_by image facts cell ToRead at width)
act_of image facts cell IrqOp = irq_of cell facts.endpoints
act_of image facts cell (HvcOp code a b) = Some (hvc_act image facts cell code a b)

-- what a CPU in this state does next that has no call open: asked, it stops; else its program's operation, where
-- it goes on
abbrev pub state_act : Image → Facts → Cpu → ℕ → Option Act
state_act image facts state cpu = if state.asked then Some Stop else option_and_then (act_of image facts state.owner) (pending_op image facts state cpu)

-- the call that is open, where the CPU made it
abbrev pub call_of : Facts → ℕ → Option OpenCall
call_of facts cpu = option_and_then (λ (o : OpenCall). if o.caller == cpu then Some o else None) facts.call

-- another CPU of the board than the caller has something due: it is asked to stop, or goes on with its program
abbrev pub is_other_due : Image → Facts → ℕ → ℕ → Bool
is_other_due image facts caller cpu = is_on_board image cpu && not (cpu == caller) && is_some (state_act image facts (facts.cpu cpu) cpu)

-- no other CPU than the caller has anything due
abbrev pub is_idle_but : Image → Facts → ℕ → Bool
is_idle_but image facts caller = not (any_below (is_other_due image facts caller) 16)

-- what the caller of the call does next: the call's next phase, where it goes on
abbrev pub caller_act : Image → Facts → Cpu → OpenCall → Option Act
caller_act image facts state o =
    if state.asked then Some Stop
    else (if goes_on state then phase_act image facts (is_idle_but image facts o.caller) o.caller o.call o.phase else None)

-- what a CPU in this state does next
abbrev pub next_act : Image → Facts → Cpu → ℕ → Option Act
next_act image facts state cpu = option_map_or (caller_act image facts state) (call_of facts cpu) (state_act image facts state cpu)

-- the CPU's act as an entry, in the name of its owner
abbrev pub entry_by : ℕ → ℕ → Act → Entry
entry_by cpu cell act = record { cpu = cpu; cell = cell; act = act }

-- the entry that a CPU in this state makes next
abbrev pub entry_of : Image → Facts → Cpu → ℕ → Option Entry
entry_of image facts state cpu = option_map (entry_by cpu state.owner) (next_act image facts state cpu)

-- the entry that the CPU makes next, where these facts hold
unfoldable pub due_at : Image → Facts → ℕ → Option Entry
due_at image facts cpu = if is_on_board image cpu then entry_of image facts (facts.cpu cpu) cpu else None

-- the entry that the CPU makes next after the entries
abbrev pub due : Image → Form → List Entry → ℕ → Option Entry
due image form entries cpu = due_at image (facts image form entries) cpu

-- each of the entries is the one due, from these facts on
abbrev pub IsLegalFrom : Image → Facts → List Entry → Type 0
IsLegalFrom image facts [] = Unit {0}
IsLegalFrom image facts (entry ∷ entries) = (due_at image facts entry.cpu ≡ Some entry) × IsLegalFrom image (after image facts entry) entries

-- each entry is the one due to its CPU after those before it
unfoldable pub IsLegal : Image → Form → List Entry → Type 0
IsLegal image form entries = IsLegalFrom image (start image form) entries

-- nothing is due to any CPU of the board, where these facts hold
abbrev pub IsQuietAt : Image → Facts → Type 0
IsQuietAt image facts = (cpu : ℕ) → due_at image facts cpu ≡ None

-- nothing is due to any CPU of the board after the entries
abbrev pub IsQuiet : Image → Form → List Entry → Type 0
IsQuiet image form entries = IsQuietAt image (facts image form entries)
