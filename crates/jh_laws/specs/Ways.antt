-- The ways of management calls: which entries are theirs, and which may follow which.
use Rattle.std.specs.Prelude.{◌≡◌, ◌⊎◌, ℕ, ℤ, pos, Bool, true, false, List, fold, Option, Some, None, option_map}
use Rattle.jh_num.specs.declared.error.TheConstants.{EPERM}
use Rattle.jh_call.specs.declared.call.Call.{Call}
use Rattle.jh_call.specs.declared.call.Call.TheVariants.{Create, Start, Loadable, Destroy, Unknown}
use Rattle.jh_call.specs.Calls.{decoded}
use Rattle.jh_history.specs.declared.call.OpenCall.{OpenCall}
use Rattle.jh_history.specs.declared.entry.Entry.{Entry}
use Rattle.jh_history.specs.declared.entry.Settled.{Settled}
use Rattle.jh_history.specs.declared.entry.Settled.TheVariants.{Agreed, Denied, Timeout}
use Rattle.jh_history.specs.declared.entry.Heard.{Heard}
use Rattle.jh_history.specs.declared.entry.Act.{Act}
use Rattle.jh_history.specs.declared.entry.Act.TheVariants.{Begin, Decide, Settle, Commit, Note, Noted, Finish}
use Rattle.jh_history.specs.Cpus.{is_undenied}

-- ---- acts

-- the act is a phase of a call behind its beginning
abbrev pub is_phase : Act → Bool
is_phase (Decide refused) = true
is_phase (Settle how) = true
is_phase Commit = true
is_phase (Note id) = true
is_phase (Noted id how) = true
is_phase (Finish answer) = true
is_phase _ = false

-- the act is a Decide
abbrev pub is_decide : Act → Bool
is_decide (Decide refused) = true
is_decide _ = false

-- the act is the end of a call
abbrev pub is_finish : Act → Bool
is_finish (Finish answer) = true
is_finish _ = false

-- the act is a Settle that isn't denied
abbrev pub is_undenied_settle : Act → Bool
is_undenied_settle (Settle how) = is_undenied how
is_undenied_settle _ = false

-- the call that the act begins; for an act that begins none, one of an unknown code
abbrev pub call_of_begin : Act → Call
call_of_begin (Begin code a b) = decoded code a b
call_of_begin _ = Unknown

-- ---- which call is open

-- the last beginning of a call that no end follows, after one entry more
abbrev pub begun_by : Option Entry → Entry → Act → Option Entry
begun_by begun entry (Begin code a b) = Some entry
begun_by begun entry (Finish answer) = None
begun_by begun entry act = begun

-- the last beginning of a call that no end follows
abbrev pub begun : List Entry → Option Entry
begun entries = fold (λ (b : Option Entry) (entry : Entry). begun_by b entry entry.act) None entries

-- the call that is open after the entries: the one that was begun last, where no end follows
abbrev pub begun_call : List Entry → Option Call
begun_call entries = option_map (λ (opening : Entry). call_of_begin opening.act) (begun entries)

-- the call that is open is the one that was begun, by its CPU
abbrev pub IsBegun : Option Entry → Option OpenCall → Type 0
IsBegun None None = Unit {0}
IsBegun None (Some o) = ⊥
IsBegun (Some entry) None = ⊥
IsBegun (Some entry) (Some o) = (o.caller ≡ entry.cpu) × (o.call ≡ call_of_begin entry.act)

-- ---- what follows what

-- the next act is a note, or the end of the call with one of these answers
abbrev pub IsNoteOr : (ℤ → Type 0) → Act → Type 0
IsNoteOr answers next = ((id : ℕ) × (next ≡ Note id)) ⊎ ((answer : ℤ) × answers answer × (next ≡ Finish answer))

-- what may follow in a call that others are told of: a note, or the end, which has an id for a create and 0 for a
-- destroy
abbrev pub IsNoteOrEnd : Call → Act → Type 0
IsNoteOrEnd (Create at) next = IsNoteOr (λ (answer : ℤ). (id : ℕ) × (answer ≡ pos id)) next
IsNoteOrEnd (Destroy id) next = IsNoteOr (λ (answer : ℤ). answer ≡ pos 0) next
IsNoteOrEnd call next = ⊥

-- what may follow the Commit of the call: the end with 0 of a start or a set loadable, else a note or the end
abbrev pub IsBehindCommit : Call → Act → Type 0
IsBehindCommit (Start id) next = next ≡ Finish (pos 0)
IsBehindCommit (Loadable id) next = next ≡ Finish (pos 0)
IsBehindCommit call next = IsNoteOrEnd call next

-- what may follow a Decide that refuses nothing: the Commit of a create, and a Settle of any other call
abbrev pub IsBehindGo : Call → Act → Type 0
IsBehindGo (Create at) next = next ≡ Commit
IsBehindGo call next = (how : Settled) × (next ≡ Settle how)

-- what the caller's next act may be behind this one of its call
abbrev pub MayFollow : Call → Act → Act → Type 0
MayFollow call (Begin code a b) next = (refused : Option ℤ) × (next ≡ Decide refused)
MayFollow call (Decide (Some number)) next = next ≡ Finish number
MayFollow call (Decide None) next = IsBehindGo call next
MayFollow call (Settle Agreed) next = next ≡ Commit
MayFollow call (Settle Timeout) next = next ≡ Commit
MayFollow call (Settle Denied) next = next ≡ Finish EPERM
MayFollow call Commit next = IsBehindCommit call next
MayFollow call (Note id) next = (how : Heard) × (next ≡ Noted id how)
MayFollow call (Noted id how) next = IsNoteOrEnd call next
MayFollow call act next = ⊥
