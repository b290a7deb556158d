-- Which call is open, and in which phase, where one of its phases is due.
use Rattle.std.proofs.Common.{◌≡◌, ℕ, Bool, true, false, cond, eqb, Option, Some, None, refl, sym, subst, ⊎_elim}
use Rattle.std.specs.Prelude.{option_map, option_and_then}
use Rattle.std.specs.Option.{option_map_or}
use Rattle.std.proofs.lemmas.Option.{none-some, same_Some}
use Rattle.jh_call.specs.declared.call.Call.{Call}
use Rattle.jh_num.specs.Below.{any_below}
use Rattle.jh_script.specs.declared.image.Image.{Image}
use Rattle.jh_script.specs.declared.op.Op.{Op}
use Rattle.jh_history.specs.declared.call.OpenCall.{OpenCall}
use Rattle.jh_history.specs.declared.call.Phase.{Phase}
use Rattle.jh_history.specs.declared.call.Phase.TheVariants.{ToDecide, ToSettle, ToCreate, ToCommit, ToNote, ToNoted, ToFinish}
use Rattle.jh_history.specs.declared.entry.Entry.{Entry}
use Rattle.jh_history.specs.declared.entry.Settled.{Settled}
use Rattle.jh_history.specs.declared.entry.Heard.{Heard}
use Rattle.jh_history.specs.declared.entry.Act.{Act}
use Rattle.jh_history.specs.declared.entry.Act.TheVariants.{Read, Write, Fetch, Await, Irq, Hvc, Begin, Stop, Decide, Settle, Commit, Note, Noted, Finish}
use Rattle.jh_history.specs.Facts.{Facts}
use Rattle.jh_history.specs.Due.{due_at, caller_act, state_act, is_idle_but}
use Rattle.jh_history.specs.Phases.{phase_act, keeps_decide, keeps_commit, decision, settled_of, heard_of}
use Rattle.jh_shape.specs.Lives.{configs_of}
use Rattle.jh_history.specs.Sound.{IsSoundCall, IsSound}
use Rattle.jh_history.proofs.SoundDueLemmas.{next_from_due, IsOutcomeOf, IsOfProgram, IsOfState, state_parts, IsOfCall, call_parts}

-- ---- what is due, by the call that is open

abbrev pub IsOf : Image → Facts → Option OpenCall → ℕ → Act → Type 0
IsOf image f None cpu act = IsOfState image f (f.cpu cpu) cpu act
IsOf image f (Some o) cpu act = IsOfCall image f o cpu act

parts_by : (image : Image) (f : Facts) (call : Option OpenCall) (cpu : ℕ) (act : Act) → IsSoundCall image (configs_of f.cells) f.cpu call
    → option_map_or (caller_act image f (f.cpu cpu)) (option_and_then (λ (o : OpenCall). cond (eqb o.caller cpu) (Some o) None) call) (state_act image f (f.cpu cpu) cpu) ≡ Some act
    → IsOf image f call cpu act
parts_by image f None cpu act sound h = state_parts image f (f.cpu cpu) cpu act h
parts_by image f (Some o) cpu act sound h = call_parts image f o cpu act sound.caller h

pub due_parts : (image : Image) (f : Facts) (entry : Entry) → IsSound image f → due_at image f entry.cpu ≡ Some entry → IsOf image f f.call entry.cpu entry.act
due_parts image f entry sound due = parts_by image f f.call entry.cpu entry.act sound.call (next_from_due image f entry due).act

-- ---- phases behind the first

-- the act is a phase of a call, and not its Begin
abbrev pub IsLater : Act → Type 0
IsLater (Read width at got) = ⊥
IsLater (Write width at value ok) = ⊥
IsLater (Fetch at got) = ⊥
IsLater (Await width at value ok) = ⊥
IsLater (Irq device vector) = ⊥
IsLater (Hvc code a b answer) = ⊥
IsLater (Begin code a b) = ⊥
IsLater Stop = ⊥
IsLater (Decide refused) = Unit {0}
IsLater (Settle how) = Unit {0}
IsLater Commit = Unit {0}
IsLater (Note id) = Unit {0}
IsLater (Noted id how) = Unit {0}
IsLater (Finish answer) = Unit {0}

-- no program comes to it
not_of_program : (image : Image) (cell : ℕ) (op : Op) (act : Act) → IsLater act → IsOutcomeOf image cell op act → ⊥
not_of_program image cell op (Read width at got) later comes = later
not_of_program image cell op (Write width at value ok) later comes = later
not_of_program image cell op (Fetch at got) later comes = later
not_of_program image cell op (Await width at value ok) later comes = later
not_of_program image cell op (Irq device vector) later comes = later
not_of_program image cell op (Hvc code a b answer) later comes = later
not_of_program image cell op (Begin code a b) later comes = later
not_of_program image cell op Stop later comes = later
not_of_program image cell op (Decide refused) later comes = comes
not_of_program image cell op (Settle how) later comes = comes
not_of_program image cell op Commit later comes = comes
not_of_program image cell op (Note id) later comes = comes
not_of_program image cell op (Noted id how) later comes = comes
not_of_program image cell op (Finish answer) later comes = comes

not_of_state : (image : Image) (f : Facts) (cpu : ℕ) (act : Act) → IsLater act → IsOfState image f (f.cpu cpu) cpu act → ⊥
not_of_state image f cpu act later h =
    ⊎_elim
    (λ stops. subst IsLater (sym stops.1) later)
    (λ (program : IsOfProgram image f (f.cpu cpu) cpu act). not_of_program image (f.cpu cpu).owner program.op act later program.comes)
    h

-- ---- which phase it is

-- the act is the one of the phase
abbrev pub IsActIn : Image → Facts → ℕ → Call → Phase → Act → Type 0
IsActIn image f caller call ToDecide act = act ≡ Decide (decision image f caller call)
IsActIn image f caller call (ToSettle waited) act = (how : Settled) × (act ≡ Settle how)
IsActIn image f caller call (ToCreate config) act = act ≡ Commit
IsActIn image f caller call ToCommit act = act ≡ Commit
IsActIn image f caller call (ToNote id about answer) act = act ≡ Note id
IsActIn image f caller call (ToNoted id about answer waited) act = (how : Heard) × (act ≡ Noted id how)
IsActIn image f caller call (ToFinish answer) act = act ≡ Finish answer

pub unless : (b : Bool) (other act : Act) → cond b None (Some other) ≡ Some act → act ≡ other
unless true other act h = absurd (none-some act h)
unless false other act h = sym (same_Some other act h)

pub settle_act : (o : Option Settled) (act : Act) → option_map (λ (how : Settled). Settle how) o ≡ Some act → (how : Settled) × (act ≡ Settle how)
settle_act None act h = absurd (none-some act h)
settle_act (Some how) act h = (how, sym (same_Some (Settle how) act h))

pub noted_act : (id : ℕ) (o : Option Heard) (act : Act) → option_map (λ (how : Heard). Noted id how) o ≡ Some act → (how : Heard) × (act ≡ Noted id how)
noted_act id None act h = absurd (none-some act h)
noted_act id (Some how) act h = (how, sym (same_Some (Noted id how) act h))

pub phase_act_holds : (image : Image) (f : Facts) (idle : Bool) (caller : ℕ) (call : Call) (phase : Phase) (act : Act) → phase_act image f idle caller call phase ≡ Some act → IsActIn image f caller call phase act
phase_act_holds image f idle caller call ToDecide act h = unless (any_below (λ i. keeps_decide image caller i (f.cpu i)) 16) (Decide (decision image f caller call)) act h
phase_act_holds image f idle caller call (ToSettle waited) act h = settle_act (settled_of f idle call waited) act h
phase_act_holds image f idle caller call (ToCreate config) act h = sym (same_Some Commit act h)
phase_act_holds image f idle caller call ToCommit act h = unless (any_below (λ i. keeps_commit image call i (f.cpu i)) 16) Commit act h
phase_act_holds image f idle caller call (ToNote id about answer) act h = sym (same_Some (Note id) act h)
phase_act_holds image f idle caller call (ToNoted id about answer waited) act h = noted_act id (heard_of f idle id waited) act h
phase_act_holds image f idle caller call (ToFinish answer) act h = sym (same_Some (Finish answer) act h)

-- ---- the call that is open

-- the CPU made the call that is open, and the act is the one of the phase that it is in
pub record IsOfOpen (image : Image) (f : Facts) (cpu : ℕ) (act : Act) : Type 0 where
  pub call : OpenCall
  pub is : f.call ≡ Some call
  pub caller : call.caller ≡ cpu
  pub phase : IsActIn image f call.caller call.call call.phase act

open_by : (image : Image) (f : Facts) (call : Option OpenCall) (cpu : ℕ) (act : Act) → f.call ≡ call → IsLater act → IsOf image f call cpu act → IsOfOpen image f cpu act
open_by image f None cpu act is later h = absurd (not_of_state image f cpu act later h)
open_by image f (Some o) cpu act is later h =
    ⊎_elim
    (λ made. record { call = o; is = is; caller = made.0; phase = phase_act_holds image f (is_idle_but image f o.caller) o.caller o.call o.phase act made.1 })
    (λ other. absurd (not_of_state image f cpu act later other.1))
    h

pub later_open : (image : Image) (f : Facts) (entry : Entry) → IsSound image f → due_at image f entry.cpu ≡ Some entry → IsLater entry.act → IsOfOpen image f entry.cpu entry.act
later_open image f entry sound due later = open_by image f f.call entry.cpu entry.act refl later (due_parts image f entry sound due)
