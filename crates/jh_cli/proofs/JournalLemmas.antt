-- A journal's text that is refused.
use Rattle.std.proofs.Common.{◌≡◌, ◌≢◌, ℕ, ◌<◌, List, length, ◌↔◌, Result, Ok, Err, refl, sym, ◌∙◌, ap, arith, inr}
use Rattle.jh_outside.specs.Reads.{HandsOut}
use Rattle.jh_text.specs.declared.fault.JournalFault.{JournalFault}
use Rattle.jh_text.specs.declared.fault.JournalFault.TheVariants.{Line, TooLong, NoMemory}
use Rattle.jh_text.specs.Faults.{IsFirstBadLine, IsTooLong, IsFault}
use Rattle.jh_text.specs.FaultText.{journal_fault_text}
use Rattle.jh_cli.specs.Limits.{asked_of_a_journal}
use Rattle.jh_cli.specs.declared.status.Status.TheVariants.{Refused}
use Rattle.jh_cli.specs.declared.ending.CallFault.{CallFault}
use Rattle.jh_cli.specs.declared.ending.CallFault.TheVariants as stop
use Rattle.jh_cli.specs.Lines.{refusal_line}
use Rattle.jh_image.specs.Files.{Contents}
use Rattle.jh_cli.specs.Reading.{Reply, EndsAt, IsCountedFault}
use Rattle.jh_cli.specs.Audit.{JournalRefusal}
use Rattle.jh_cli.specs.Private.Endings.{OnEnded}
use Rattle.jh_cli.proofs.BoardLemmas.{nothing, refused_is_read}
use Rattle.jh_cli.proofs.StopLemmas.{on_ended, refuses}

tag : JournalFault → ℕ
tag (Line number) = 1
tag TooLong = 1
tag NoMemory = 0

-- the reply where a journal has the fault
abbrev pub Refuses : List ℕ → JournalFault → Reply → Type 0
Refuses name fault reply = reply ≡ record { status = Refused; text = refusal_line name (journal_fault_text fault) }

-- what the reader says of its fault
abbrev pub IsTrueFault : List ℕ → JournalFault → Type 0
IsTrueFault text fault = fault ≢ NoMemory → IsFault text fault

fault_in : {X : Type 0} → Result X JournalFault → JournalFault
fault_in (Ok x) = NoMemory
fault_in (Err fault) = fault

is_other : {X : Type 0} (fault : JournalFault) (r memory : Result X JournalFault) → r ≡ Err fault → memory ≡ Err NoMemory → fault ≢ NoMemory → r ≢ memory
unfolding fault_in
is_other {X} fault r memory is wanted other h = other (ap (λ (s : Result X JournalFault). fault_in s) (sym is ∙ h ∙ wanted))

-- the reader's clauses say that its fault is the text's
pub is_fault : {X : Type 0} (text : List ℕ) (fault : JournalFault) (r memory : Result X JournalFault) → r ≡ Err fault → memory ≡ Err NoMemory
    → (r ≢ memory → (number : ℕ) → (r ≡ Err (Line number)) ↔ IsFirstBadLine text number)
    → (r ≢ memory → (r ≡ Err TooLong) ↔ IsTooLong text) → IsTrueFault text fault
is_fault text (Line number) r memory is wanted line long other = (line (is_other (Line number) r memory is wanted other) number).0 is
is_fault text TooLong r memory is wanted line long other = (long (is_other TooLong r memory is wanted other)).0 is
is_fault text NoMemory r memory is wanted line long other = tt

stops_for : (contents : Contents) (name text : List ℕ) (fault : JournalFault) → fault ≢ NoMemory → IsTrueFault text fault → HandsOut (contents name) asked_of_a_journal text → length text < asked_of_a_journal
    → (s : CallFault) → OnEnded s (Refuses name fault) → OnEnded s (EndsAt asked_of_a_journal contents name JournalRefusal)
stops_for contents name text fault other told handed within s h =
    refuses asked_of_a_journal contents name JournalRefusal text (journal_fault_text fault) handed
    (inr (record { within = within; fault = fault; is_of_text = other; first = told other; told = refl })) s h

-- the call ends at a text with a fault
pub ends_there : (contents : Contents) (name text : List ℕ) (fault : JournalFault) → IsTrueFault text fault → HandsOut (contents name) asked_of_a_journal text → length text < asked_of_a_journal
    → (s : CallFault) → OnEnded s (Refuses name fault) → (fault ≡ NoMemory → s ≡ stop.NoMemory) → OnEnded s (EndsAt asked_of_a_journal contents name JournalRefusal)
unfolding tag
ends_there contents name text (Line number) told handed within s h memory = stops_for contents name text (Line number) (λ e. let same : 1 ≡ 0 = ap tag e in omega arith) told handed within s h
ends_there contents name text TooLong told handed within s h memory = stops_for contents name text TooLong (λ e. let same : 1 ≡ 0 = ap tag e in omega arith) told handed within s h
ends_there contents name text NoMemory told handed within s h memory = nothing (EndsAt asked_of_a_journal contents name JournalRefusal) s (memory refl)

-- and no fault of reading is told
pub no_fault_there : (old new : ℕ) (failed name : List ℕ) (fault : JournalFault) (s : CallFault) → OnEnded s (Refuses name fault) → OnEnded s (IsCountedFault old new failed)
no_fault_there old new failed name fault s h =
    on_ended (Refuses name fault) (IsCountedFault old new failed) s (λ reply is read. absurd (refused_is_read reply (refusal_line name (journal_fault_text fault)) is read)) h
