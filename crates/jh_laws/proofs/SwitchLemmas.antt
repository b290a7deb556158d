-- What the calls of the power interface do to CPUs, and where they are unknown.
use Rattle.std.proofs.Common.{◌≡◌, ◌≢◌, ℕ, ℤ, pos, negsuc, Bool, true, cond, refl, sym, ap, subst, ◌∙◌}
use Rattle.std.proofs.lemmas.Bool.{ne_eqb, false≢true}
use Rattle.jh_num.proofs.Public.{same_number}
use Rattle.jh_cpu.specs.declared.cpu.Cpu.{Cpu}
use Rattle.jh_cpu.specs.Changes.{moved, parked, restarted}
use Rattle.jh_call.specs.declared.call.Call.{Call}
use Rattle.jh_call.specs.declared.call.Call.TheVariants.{CpuOff, CpuOn, Affinity, Unknown}
use Rattle.jh_call.specs.Calls.{decoded, is_power}
use Rattle.jh_script.specs.declared.image.Image.{Image}
use Rattle.jh_history.specs.declared.form.Form.{Form}
use Rattle.jh_history.specs.declared.form.Form.TheVariants.{One, Two}
use Rattle.jh_history.specs.declared.entry.Act.{Act}
use Rattle.jh_history.specs.declared.entry.Act.TheVariants.{Hvc}
use Rattle.jh_history.specs.Facts.{Facts}
use Rattle.jh_history.specs.Calls.{is_of_call}
use Rattle.jh_history.specs.Cpus.{acted, cpu_by_call, runs_by_start}
use Rattle.jh_history.specs.Hypercalls.{call_in}
use Rattle.jh_history.proofs.Public.{called_spared, facts_form}
use Rattle.jh_laws.specs.Hypercalls.{IsAnswer}
use Rattle.jh_laws.specs.Moments.{AdmittedMoment, facts_before, state_before, state_behind}
use Rattle.jh_laws.specs.Outcomes.{is_violation}
use Rattle.jh_laws.specs.States.{is_on, is_off, switches_off, changes_others, is_stop_act, HasSwitchedOn, HasSwitchedOff}
use Rattle.jh_laws.proofs.EntryLemmas.{cell_at}
use Rattle.jh_laws.proofs.PageCauseLemmas.{due_of, sound_at}
use Rattle.jh_laws.proofs.PowerLemmas.{due_answered, due_on, due_off, on_other}
use Rattle.jh_laws.proofs.StatesLemmas.{behind_cpu, moved_stepped, position_few, own_steps, others_kept}

-- a CPU behind a hypercall that was answered
behind_call : (m : AdmittedMoment) (code a b cpu : ℕ) (answer : ℤ) → m.entry.act ≡ Hvc code a b answer → state_behind m cpu ≡ cpu_by_call (decoded code a b) answer m.entry.cpu cpu (state_before m cpu)
behind_call m code a b cpu answer is =
    let f : Facts = facts_before m in
    behind_cpu m.image m.form m.before m.entry cpu
    ∙ ap (λ (x : Act). acted m.image (runs_by_start f cpu) f.call x m.entry.cpu cpu (f.cpu cpu)) is

-- ---- on

begins_on : (own on : ℕ) (c : Cpu) → on ≢ own → cpu_by_call (CpuOn on) (pos 0) own on c ≡ restarted c
begins_on own on c other = rw (ne_eqb on own other, same_number on) refl

abbrev on_of : Call → ℕ
on_of (CpuOn on) = on
on_of _ = 0

pub switched_on : (m : AdmittedMoment) (code a b on : ℕ) → m.entry.act ≡ Hvc code a b (pos 0) → decoded code a b ≡ CpuOn on → HasSwitchedOn m on
switched_on m code a b on is call =
    let f : Facts = facts_before m in
    let own : ℕ = m.entry.cpu in
    let due = due_of m in
    let h = due_on m.image f m.entry code a b on (pos 0) (sound_at m) due is call refl in
    let cell = (cell_at m.image m.form m.before m.rest m.entry m.legal).1 in
    let other : on ≢ own = on_other m.image f m.entry code a b on (pos 0) (sound_at m) due is h in
    record {
      cell = λ e. h.foreign (sym cell ∙ e);
      board = h.board;
      other = other;
      owner = h.owner ∙ sym cell;
      rested = h.parked;
      begins = behind_call m code a b on (pos 0) is ∙ ap (λ (c : Call). cpu_by_call c (pos 0) own on (f.cpu on)) call ∙ begins_on own on (f.cpu on) other;
      caller = own_steps m.image m.form m.before m.rest m.entry m.admitted m.legal (ap is_of_call is) (ap is_stop_act is) (ap is_violation is) (ap switches_off is ∙ ap is_off call);
      others = λ cpu not_on not_own.
          behind_call m code a b cpu (pos 0) is
          ∙ called_spared (decoded code a b) (pos 0) own cpu (f.cpu cpu) not_own (λ _ x named e. not_on (e ∙ ap on_of (sym named ∙ call)));
    }

-- ---- off

rests_off : (own : ℕ) (c : Cpu) → cpu_by_call CpuOff (pos 0) own own c ≡ parked (moved c)
rests_off own c = rw (same_number own) refl

pub switched_off : (m : AdmittedMoment) (code a b : ℕ) → m.entry.act ≡ Hvc code a b (pos 0) → decoded code a b ≡ CpuOff → HasSwitchedOff m
switched_off m code a b is call =
    let f : Facts = facts_before m in
    let own : ℕ = m.entry.cpu in
    let due = due_of m in
    let foreign = due_off m.image f m.entry code a b (pos 0) (sound_at m) due is call refl in
    let cell = (cell_at m.image m.form m.before m.rest m.entry m.legal).1 in
    let few = position_few m.image m.form m.before m.rest m.entry m.admitted m.legal (ap is_of_call is) (ap is_stop_act is) in
    record {
      cell = λ e. foreign (sym cell ∙ e);
      rests = behind_call m code a b own (pos 0) is ∙ ap (λ (c : Call). cpu_by_call c (pos 0) own own (f.cpu own)) call ∙ rests_off own (f.cpu own) ∙ ap parked (moved_stepped (f.cpu own) few);
      others = λ cpu other. others_kept m.image m.form m.before m.entry cpu (ap changes_others is ∙ ap is_on call) other;
    }

-- ---- unknown

unknown_in : (call : Call) → is_power call ≡ true → call_in One call ≡ Unknown
unknown_in call power = ap (λ (b : Bool). cond b Unknown call) power

unknown_one : (image : Image) (f : Facts) (cell : ℕ) (call : Call) (answer : ℤ) (form : Form) → is_power call ≡ true → form ≡ One → IsAnswer image f cell (call_in form call) answer → answer ≡ negsuc 37
unknown_one image f cell call answer form power is h =
    let P : Call → Type 0 = λ c. IsAnswer image f cell c answer in
    subst P (ap (λ (x : Form). call_in x call) is ∙ unknown_in call power) h

unknown_root : (image : Image) (f : Facts) (cell : ℕ) (call : Call) (answer : ℤ) (form : Form) → is_power call ≡ true → cell ≡ image.system.root.id → IsAnswer image f cell (call_in form call) answer → answer ≡ negsuc 37
unknown_root image f cell call answer One power own h = unknown_one image f cell call answer One power refl h
unknown_root image f cell CpuOff answer Two power own h = h.root own
unknown_root image f cell (CpuOn on) answer Two power own h = h.root own
unknown_root image f cell (Affinity on level) answer Two power own h = h.root own
unknown_root image f cell _ answer Two power own h = absurd (false≢true power)

answer_of_due : (m : AdmittedMoment) (code a b : ℕ) (answer : ℤ) → m.entry.act ≡ Hvc code a b answer
    → IsAnswer m.image (facts_before m) ((facts_before m).cpu m.entry.cpu).owner (call_in (facts_before m).form (decoded code a b)) answer
answer_of_due m code a b answer is = due_answered m.image (facts_before m) m.entry code a b answer (sound_at m) (due_of m) is

pub one_unknown : (m : AdmittedMoment) (code a b : ℕ) (answer : ℤ) → m.entry.act ≡ Hvc code a b answer → is_power (decoded code a b) ≡ true → m.form ≡ One → answer ≡ negsuc 37
one_unknown m code a b answer is power one =
    let f : Facts = facts_before m in
    unknown_one m.image f (f.cpu m.entry.cpu).owner (decoded code a b) answer f.form power (facts_form m.image m.form m.before ∙ one) (answer_of_due m code a b answer is)

pub root_unknown : (m : AdmittedMoment) (code a b : ℕ) (answer : ℤ) → m.entry.act ≡ Hvc code a b answer → is_power (decoded code a b) ≡ true → m.entry.cell ≡ m.image.system.root.id → answer ≡ negsuc 37
root_unknown m code a b answer is power root =
    let f : Facts = facts_before m in
    unknown_root m.image f (f.cpu m.entry.cpu).owner (decoded code a b) answer f.form power (sym (cell_at m.image m.form m.before m.rest m.entry m.legal).1 ∙ root) (answer_of_due m code a b answer is)
