-- What a call of the power interface switched, where it was granted.
use Rattle.std.proofs.Common.{◌≡◌, ◌≢◌, ℕ, ℤ, negsuc, true, false, ◌&&◌, Some, refl, sym, ap, subst, ◌∙◌, inl, inr, ⊎_elim}
use Rattle.std.proofs.lemmas.Bool.{both_ways, and_parts, false≢true, false_from_ne_true, cases_Bool, cases_eq}
use Rattle.jh_num.specs.declared.error.TheConstants.{ENOSYS}
use Rattle.jh_cpu.specs.declared.cpu.Mode.{Mode}
use Rattle.jh_cpu.specs.declared.cpu.Mode.TheVariants.{Running, Parked, Failed}
use Rattle.jh_cpu.specs.Changes.{is_failed}
use Rattle.jh_call.specs.declared.call.Call.{Call}
use Rattle.jh_call.specs.declared.call.Call.TheVariants.{CpuOff, CpuOn}
use Rattle.jh_call.specs.Calls.{decoded}
use Rattle.jh_script.specs.declared.image.Image.{Image}
use Rattle.jh_history.specs.declared.form.Form.{Form}
use Rattle.jh_history.specs.declared.form.Form.TheVariants.{One, Two}
use Rattle.jh_history.specs.declared.entry.Entry.{Entry}
use Rattle.jh_history.specs.declared.entry.Act.{Act}
use Rattle.jh_history.specs.declared.entry.Act.TheVariants.{Hvc}
use Rattle.jh_history.specs.Facts.{Facts}
use Rattle.jh_history.specs.Lives.{is_on_board}
use Rattle.jh_history.specs.Cpus.{is_granted, is_running}
use Rattle.jh_history.specs.Due.{due_at}
use Rattle.jh_history.specs.Hypercalls.{call_in}
use Rattle.jh_history.specs.Sound.{IsSound}
use Rattle.jh_history.proofs.Public.{goes_running, running_mode}
use Rattle.jh_laws.specs.Hypercalls.{IsOnAnswer, IsAnswer}
use Rattle.jh_laws.specs.States.{is_off, switches_off, is_stop_act}
use Rattle.jh_laws.specs.Ways.{is_phase}
use Rattle.jh_laws.proofs.CallLemmas.{IsMadeBy, Stopping, Running as Runs, Calling, made_by}
use Rattle.jh_laws.proofs.HvcLemmas.{answered_made, hvc_answered}

-- ---- by the answer

not_given : (answer z : ℤ) → is_granted z ≡ false → is_granted answer ≡ true → answer ≡ z → ⊥
not_given answer z none granted e = both_ways (is_granted z) none (sym (ap is_granted e) ∙ granted)

parked_by : (mode : Mode) → (mode ≡ Running → ⊥) → (mode ≡ Failed → ⊥) → mode ≡ Parked
parked_by Running a b = absurd (a refl)
parked_by Parked a b = refl
parked_by Failed a b = absurd (b refl)

-- the CPU is one of the cell, which isn't root, and is parked
pub record IsSwitchedOn (image : Image) (f : Facts) (cell on : ℕ) : Type 0 where
  pub foreign : cell ≢ image.system.root.id
  pub board : is_on_board image on ≡ true
  pub owner : (f.cpu on).owner ≡ cell
  pub parked : (f.cpu on).mode ≡ Parked

on_two : (image : Image) (f : Facts) (cell on : ℕ) (answer : ℤ) → IsOnAnswer image f cell on answer → is_granted answer ≡ true → IsSwitchedOn image f cell on
on_two image f cell on answer h granted =
    let foreign : cell ≢ image.system.root.id = λ own. not_given answer ENOSYS refl granted (h.root own) in
    let board : is_on_board image on ≡ true =
    ⊎_elim
    (λ (yes : is_on_board image on ≡ true). yes)
    (λ (off : is_on_board image on ≡ false). absurd (not_given answer (negsuc 1) refl granted (h.foreign foreign (inl off))))
    (cases_Bool (is_on_board image on)) in
    let owner : (f.cpu on).owner ≡ cell =
    ⊎_elim
    (λ (yes : (f.cpu on).owner ≡ cell). yes)
    (λ (no : (f.cpu on).owner ≢ cell). absurd (not_given answer (negsuc 1) refl granted (h.foreign foreign (inr no))))
    (cases_eq (f.cpu on).owner cell) in
    record {
      foreign = foreign;
      board = board;
      owner = owner;
      parked = parked_by (f.cpu on).mode
          (λ is. not_given answer (negsuc 3) refl granted (h.running foreign board owner is))
          (λ is. not_given answer (negsuc 2) refl granted (h.failed foreign board owner is));
    }

on_granted : (image : Image) (f : Facts) (cell on : ℕ) (answer : ℤ) (form : Form) → IsAnswer image f cell (call_in form (CpuOn on)) answer → is_granted answer ≡ true → IsSwitchedOn image f cell on
on_granted image f cell on answer One h granted = absurd (not_given answer ENOSYS refl granted h)
on_granted image f cell on answer Two h granted = on_two image f cell on answer h granted

off_granted : (image : Image) (f : Facts) (cell : ℕ) (answer : ℤ) (form : Form) → IsAnswer image f cell (call_in form CpuOff) answer → is_granted answer ≡ true → cell ≢ image.system.root.id
off_granted image f cell answer One h granted = absurd (not_given answer ENOSYS refl granted h)
off_granted image f cell answer Two h granted = λ own. not_given answer ENOSYS refl granted (h.root own)

-- ---- where it is due

pub due_answered : (image : Image) (f : Facts) (entry : Entry) (code a b : ℕ) (answer : ℤ) → IsSound image f → due_at image f entry.cpu ≡ Some entry → entry.act ≡ Hvc code a b answer
    → IsAnswer image f (f.cpu entry.cpu).owner (call_in f.form (decoded code a b)) answer
due_answered image f entry code a b answer sound due is =
    hvc_answered image f (f.cpu entry.cpu).owner entry.act code a b answer is (answered_made image f entry sound.cells (made_by image f entry sound due))

pub due_on : (image : Image) (f : Facts) (entry : Entry) (code a b on : ℕ) (answer : ℤ) → IsSound image f → due_at image f entry.cpu ≡ Some entry → entry.act ≡ Hvc code a b answer → decoded code a b ≡ CpuOn on → is_granted answer ≡ true
    → IsSwitchedOn image f (f.cpu entry.cpu).owner on
due_on image f entry code a b on answer sound due is call granted =
    let P : Call → Type 0 = λ c. IsAnswer image f (f.cpu entry.cpu).owner (call_in f.form c) answer in
    on_granted image f (f.cpu entry.cpu).owner on answer f.form (subst P call (due_answered image f entry code a b answer sound due is)) granted

pub due_off : (image : Image) (f : Facts) (entry : Entry) (code a b : ℕ) (answer : ℤ) → IsSound image f → due_at image f entry.cpu ≡ Some entry → entry.act ≡ Hvc code a b answer → decoded code a b ≡ CpuOff → is_granted answer ≡ true
    → (f.cpu entry.cpu).owner ≢ image.system.root.id
due_off image f entry code a b answer sound due is call granted =
    let P : Call → Type 0 = λ c. IsAnswer image f (f.cpu entry.cpu).owner (call_in f.form c) answer in
    off_granted image f (f.cpu entry.cpu).owner answer f.form (subst P call (due_answered image f entry code a b answer sound due is)) granted

-- the CPU that makes a hypercall runs
hvc_runs : (image : Image) (f : Facts) (entry : Entry) (code a b : ℕ) (answer : ℤ) → entry.act ≡ Hvc code a b answer → IsMadeBy image f entry → (f.cpu entry.cpu).mode ≡ Running
hvc_runs image f entry code a b answer is (Stopping stops) = absurd (false≢true (sym (ap is_stop_act (stops ∙ is))))
hvc_runs image f entry code a b answer is (Calling phase) = absurd (both_ways (is_phase entry.act) (ap is_phase is) phase)
hvc_runs image f entry code a b answer is (Runs program) = running_mode (f.cpu entry.cpu) (goes_running (f.cpu entry.cpu) program.goes)

-- so it isn't the one that is switched on
pub on_other : (image : Image) (f : Facts) (entry : Entry) (code a b on : ℕ) (answer : ℤ) → IsSound image f → due_at image f entry.cpu ≡ Some entry → entry.act ≡ Hvc code a b answer → IsSwitchedOn image f (f.cpu entry.cpu).owner on → on ≢ entry.cpu
on_other image f entry code a b on answer sound due is h = λ e.
    let runs : (f.cpu entry.cpu).mode ≡ Running = hvc_runs image f entry code a b answer is (made_by image f entry sound due) in
    let same : Parked ≡ Running = sym h.parked ∙ ap (λ (k : ℕ). (f.cpu k).mode) e ∙ runs in
    false≢true (ap is_running same)

-- ---- which CPUs are spared

-- where the act was granted and switches a CPU on, that is another than this
abbrev pub Spares : ℕ → Act → Type 0
Spares i (Hvc code a b answer) = is_granted answer ≡ true → (on : ℕ) → decoded code a b ≡ CpuOn on → i ≢ on
Spares i act = Unit {0}

own_by : (image : Image) (f : Facts) (entry : Entry) (act : Act) → IsSound image f → due_at image f entry.cpu ≡ Some entry → entry.act ≡ act → Spares entry.cpu act
own_by image f entry (Hvc code a b answer) sound due is = λ granted on call e.
    on_other image f entry code a b on answer sound due is (due_on image f entry code a b on answer sound due is call granted) (sym e)
own_by image f entry _ sound due is = tt

pub spares_own : (image : Image) (f : Facts) (entry : Entry) → IsSound image f → due_at image f entry.cpu ≡ Some entry → Spares entry.cpu entry.act
spares_own image f entry sound due = own_by image f entry entry.act sound due refl

failed_by : (image : Image) (f : Facts) (entry : Entry) (cpu : ℕ) (act : Act) → IsSound image f → due_at image f entry.cpu ≡ Some entry → entry.act ≡ act → (f.cpu cpu).mode ≡ Failed → Spares cpu act
failed_by image f entry cpu (Hvc code a b answer) sound due is failed = λ granted on call e.
    let h = due_on image f entry code a b on answer sound due is call granted in
    let same : Failed ≡ Parked = sym failed ∙ ap (λ (k : ℕ). (f.cpu k).mode) e ∙ h.parked in
    false≢true (sym (ap is_failed same))
failed_by image f entry cpu _ sound due is failed = tt

pub spares_failed : (image : Image) (f : Facts) (entry : Entry) (cpu : ℕ) → IsSound image f → due_at image f entry.cpu ≡ Some entry → (f.cpu cpu).mode ≡ Failed → Spares cpu entry.act
spares_failed image f entry cpu sound due failed = failed_by image f entry cpu entry.act sound due refl failed

root_by : (image : Image) (f : Facts) (entry : Entry) (cpu : ℕ) (act : Act) → IsSound image f → due_at image f entry.cpu ≡ Some entry → entry.act ≡ act → (f.cpu cpu).owner ≡ image.system.root.id → Spares cpu act
root_by image f entry cpu (Hvc code a b answer) sound due is root = λ granted on call e.
    let h = due_on image f entry code a b on answer sound due is call granted in
    h.foreign (sym h.owner ∙ ap (λ (k : ℕ). (f.cpu k).owner) (sym e) ∙ root)
root_by image f entry cpu _ sound due is root = tt

pub spares_root : (image : Image) (f : Facts) (entry : Entry) (cpu : ℕ) → IsSound image f → due_at image f entry.cpu ≡ Some entry → (f.cpu cpu).owner ≡ image.system.root.id → Spares cpu entry.act
spares_root image f entry cpu sound due root = root_by image f entry cpu entry.act sound due refl root

off_is : (call : Call) → is_off call ≡ true → call ≡ CpuOff
off_is CpuOff h = refl
off_is _ h = absurd (false≢true h)

keeps_by : (image : Image) (f : Facts) (entry : Entry) (act : Act) → IsSound image f → due_at image f entry.cpu ≡ Some entry → entry.act ≡ act → (f.cpu entry.cpu).owner ≡ image.system.root.id → switches_off act ≡ false
keeps_by image f entry (Hvc code a b answer) sound due is root =
    false_from_ne_true (is_granted answer && is_off (decoded code a b))
    (λ yes.
    let parts = and_parts (is_granted answer) (is_off (decoded code a b)) yes in
    due_off image f entry code a b answer sound due is (off_is (decoded code a b) parts.1) parts.0 root)
keeps_by image f entry _ sound due is root = refl

-- root switches no CPU off
pub roots_stay_on : (image : Image) (f : Facts) (entry : Entry) → IsSound image f → due_at image f entry.cpu ≡ Some entry → (f.cpu entry.cpu).owner ≡ image.system.root.id → switches_off entry.act ≡ false
roots_stay_on image f entry sound due root = keeps_by image f entry entry.act sound due refl root
