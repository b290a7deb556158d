-- What an entry of one CPU leaves sound, and the beginning and the end of a call.
use Rattle.std.proofs.Common.{◌≡◌, ◌≢◌, ℕ, List, Bool, true, false, cond, not, ◌&&◌, eqb, Some, ℤ, refl, sym, ap, subst, ◌∙◌, inl, inr}
use Rattle.std.specs.Prelude.{slice_get}
use Rattle.std.proofs.lemmas.Bool.{both_ways, and_left, and_right, cond_both, eqb-true, eq-eqb, ne_eqb}
use Rattle.jh_num.proofs.Public.{same_number}
use Rattle.jh_cellcfg.specs.declared.config.CellConfig.{CellConfig}
use Rattle.jh_cellcfg.specs.Cells.{name_of}
use Rattle.jh_cpu.specs.declared.cpu.Cpu.{Cpu}
use Rattle.jh_cpu.specs.Changes.{moved, asked_of, resumed}
use Rattle.jh_call.specs.declared.call.Call.{Call}
use Rattle.jh_call.specs.Calls.{decoded, is_management}
use Rattle.jh_script.specs.declared.image.Image.{Image}
use Rattle.jh_script.specs.declared.op.Op.TheVariants.{Hvc as HvcOp}
use Rattle.jh_history.specs.declared.call.OpenCall.{OpenCall}
use Rattle.jh_history.specs.declared.call.Phase.{Phase}
use Rattle.jh_history.specs.declared.call.Phase.TheVariants.{ToDecide, ToFinish}
use Rattle.jh_history.specs.declared.change.Change.{Change}
use Rattle.jh_history.specs.declared.change.Change.TheVariants.{Stop as Halt}
use Rattle.jh_history.specs.Lives.{is_on_board, program_ops}
use Rattle.jh_history.specs.Calls.{counted}
use Rattle.jh_history.specs.Cpus.{changed, is_running, asked_by_begin, cpu_by_finish, resumed_of_root}
use Rattle.jh_history.specs.Wants.{goes_on}
use Rattle.jh_history.specs.Sound.{AreOwned, IsCalm, IsHalting, HaltsForCall, HaltsForCommit, IsCaller, IsOpen}
use Rattle.jh_history.proofs.SoundCpusLemmas.{IsMild, mild_calm, changed_owner, goes_running, running_mode, come_rests, come_stopped, goes_stopped, goes_mild, come_counted, goes_counted, owned_kept, phase_counted}

-- one CPU changes
abbrev pub one_changed : Change → ℕ → (ℕ → Cpu) → ℕ → Cpu
one_changed change own cpu i = cond (eqb i own) (changed change (cpu i)) (cpu i)

-- what holds of the CPU that changes, and of each other, holds of each
pub at_each : (P : ℕ → Cpu → Type 0) (change : Change) (own : ℕ) (cpu : ℕ → Cpu) (i : ℕ) → P own (changed change (cpu own)) → (i ≢ own → P i (cpu i)) → P i (one_changed change own cpu i)
at_each P change own cpu i at others =
    let Q : ℕ → Type 0 = λ k. P k (changed change (cpu k)) in
    cond_both (eqb i own) (changed change (cpu i)) (cpu i) (P i)
    (λ yes. subst Q (sym (eqb-true i own yes)) at)
    (λ no. others (λ is. both_ways (eqb i own) no (eq-eqb i own is)))

pub one_owner : (change : Change) (own : ℕ) (cpu : ℕ → Cpu) (i : ℕ) → (one_changed change own cpu i).owner ≡ (cpu i).owner
one_owner change own cpu i =
    let same : Cpu → Type 0 = λ c. c.owner ≡ (cpu i).owner in
    cond_both (eqb i own) (changed change (cpu i)) (cpu i) same (λ _. changed_owner change (cpu i)) (λ _. refl)

-- ---- an operation of a CPU

-- where no call is open
pub calm_one : (change : Change) (own : ℕ) (cpu : ℕ → Cpu) → IsMild change → ((i : ℕ) → IsCalm (cpu i)) → (i : ℕ) → IsCalm (one_changed change own cpu i)
calm_one change own cpu mild calm i = at_each (λ k c. IsCalm c) change own cpu i (mild_calm change (cpu own) mild (calm own)) (λ _. calm i)

-- where one is open, of another CPU than its caller
pub open_one : (image : Image) (configs : List CellConfig) (cpu : ℕ → Cpu) (o : OpenCall) (change : Change) (own cell : ℕ) → IsOpen image configs cpu o → is_on_board image own ≡ true → own ≢ o.caller
    → ((cpu own).owner ≡ image.system.root.id → HaltsForCall o.phase (changed change (cpu own)))
    → ((cpu own).owner ≢ image.system.root.id → HaltsForCommit o.call o.phase (changed change (cpu own)))
    → IsOpen image configs (one_changed change own cpu) (record { caller = o.caller; call = o.call; phase = counted cell o.call o.phase })
open_one image configs cpu o change own cell opens on other come goes =
    let root : ℕ = image.system.root.id in
    let phase : Phase = counted cell o.call o.phase in
    let C : ℕ → Cpu → Type 0 = λ k c. k ≡ o.caller → IsCaller image o.caller o.call c in
    let R : ℕ → Cpu → Type 0 = λ k c. is_on_board image k ≡ true → k ≢ o.caller → c.owner ≡ root → HaltsForCall phase c in
    let G : ℕ → Cpu → Type 0 = λ k c. c.owner ≢ root → HaltsForCommit o.call phase c in
    let A : ℕ → Cpu → Type 0 = λ k c. is_on_board image k ≡ false → IsCalm c in
    record {
      caller = at_each C change own cpu o.caller (λ is. absurd (other is)) (λ _ _. opens.caller) refl;
      roots = λ i. at_each R change own cpu i
          (λ _ _ is. come_counted cell o.call o.phase (changed change (cpu own)) (come (sym (changed_owner change (cpu own)) ∙ is)))
          (λ _ here apart is. come_counted cell o.call o.phase (cpu i) (opens.roots i here apart is));
      cells = λ i. at_each G change own cpu i
          (λ is. goes_counted cell o.call o.phase (changed change (cpu own)) (goes (λ e. is (changed_owner change (cpu own) ∙ e))))
          (λ _ is. goes_counted cell o.call o.phase (cpu i) (opens.cells i is));
      absent = λ i. at_each A change own cpu i (λ off. absurd (both_ways (is_on_board image own) off on)) (λ _. opens.absent i);
      phase = phase_counted image configs cpu (one_changed change own cpu) o.caller cell o.call o.phase (one_owner change own cpu) opens.phase;
    }

-- a CPU that stops
pub open_stop : (image : Image) (configs : List CellConfig) (cpu : ℕ → Cpu) (o : OpenCall) (own cell : ℕ) → IsOpen image configs cpu o → is_on_board image own ≡ true → own ≢ o.caller → (cpu own).asked ≡ true
    → IsOpen image configs (one_changed Halt own cpu) (record { caller = o.caller; call = o.call; phase = counted cell o.call o.phase })
open_stop image configs cpu o own cell opens on other asked =
    open_one image configs cpu o Halt own cell opens on other
    (λ is. come_stopped o.phase (cpu own) asked (opens.roots own on other is))
    (λ is. goes_stopped o.call o.phase (cpu own) asked (opens.cells own is))

-- a CPU that goes on with its program: it isn't root's
pub open_mild : (image : Image) (configs : List CellConfig) (cpu : ℕ → Cpu) (o : OpenCall) (change : Change) (own cell : ℕ) → IsMild change → IsOpen image configs cpu o → is_on_board image own ≡ true → own ≢ o.caller → goes_on (cpu own) ≡ true
    → IsOpen image configs (one_changed change own cpu) (record { caller = o.caller; call = o.call; phase = counted cell o.call o.phase })
open_mild image configs cpu o change own cell mild opens on other goes =
    open_one image configs cpu o change own cell opens on other
    (λ is. absurd (come_rests o.phase (cpu own) (opens.roots own on other is) goes))
    (λ is. goes_mild o.call o.phase change (cpu own) mild goes (opens.cells own is))

-- ---- the beginning of a call

pub begun_owner : (image : Image) (own i : ℕ) (cpu : Cpu) → (asked_by_begin image own i cpu).owner ≡ cpu.owner
begun_owner image own i cpu =
    let same : Cpu → Type 0 = λ c. c.owner ≡ cpu.owner in
    cond_both (is_on_board image i && not (eqb i own) && eqb cpu.owner image.system.root.id && is_running cpu.mode) (asked_of cpu) cpu same (λ _. refl) (λ _. refl)

pub owned_begun : (image : Image) (configs : List CellConfig) (cpu : ℕ → Cpu) (own : ℕ) → AreOwned image configs cpu → AreOwned image configs (λ i. asked_by_begin image own i (cpu i))
owned_begun image configs cpu own owned = owned_kept image configs cpu (λ i. asked_by_begin image own i (cpu i)) (λ i. begun_owner image own i (cpu i)) owned

begun_not : (image : Image) (own i : ℕ) (cpu : Cpu) → (is_on_board image i && not (eqb i own) && eqb cpu.owner image.system.root.id && is_running cpu.mode) ≡ false → asked_by_begin image own i cpu ≡ cpu
begun_not image own i cpu fails = rw fails refl

-- the CPU that begins the call isn't asked, nor is one that isn't root's, or that the board lacks
begun_own : (image : Image) (own : ℕ) (cpu : Cpu) → asked_by_begin image own own cpu ≡ cpu
begun_own image own cpu =
    begun_not image own own cpu
    (and_left (is_on_board image own && not (eqb own own) && eqb cpu.owner image.system.root.id) (is_running cpu.mode)
    (and_left (is_on_board image own && not (eqb own own)) (eqb cpu.owner image.system.root.id)
    (and_right (is_on_board image own) (not (eqb own own)) (ap not (same_number own)))))

begun_cells : (image : Image) (own i : ℕ) (cpu : Cpu) → cpu.owner ≢ image.system.root.id → asked_by_begin image own i cpu ≡ cpu
begun_cells image own i cpu other =
    begun_not image own i cpu
    (and_left (is_on_board image i && not (eqb i own) && eqb cpu.owner image.system.root.id) (is_running cpu.mode)
    (and_right (is_on_board image i && not (eqb i own)) (eqb cpu.owner image.system.root.id) (ne_eqb cpu.owner image.system.root.id other)))

begun_absent : (image : Image) (own i : ℕ) (cpu : Cpu) → is_on_board image i ≡ false → asked_by_begin image own i cpu ≡ cpu
begun_absent image own i cpu off =
    begun_not image own i cpu
    (and_left (is_on_board image i && not (eqb i own) && eqb cpu.owner image.system.root.id) (is_running cpu.mode)
    (and_left (is_on_board image i && not (eqb i own)) (eqb cpu.owner image.system.root.id)
    (and_left (is_on_board image i) (not (eqb i own)) off)))

-- another one of root's is asked where it runs
begun_root : (image : Image) (own i : ℕ) (cpu : Cpu) (b : Bool) → is_running cpu.mode ≡ b → is_on_board image i ≡ true → i ≢ own → cpu.owner ≡ image.system.root.id → IsCalm cpu → IsHalting (asked_by_begin image own i cpu)
begun_root image own i cpu true runs on other is calm =
    let asked : asked_by_begin image own i cpu ≡ asked_of cpu = rw (on, ne_eqb i own other, eq-eqb cpu.owner image.system.root.id is, runs) refl in
    subst IsHalting (sym asked) (inl (record { asked = refl; stopped = calm.stopped; running = running_mode cpu runs }))
begun_root image own i cpu false rests on other is calm =
    let same : asked_by_begin image own i cpu ≡ cpu = begun_not image own i cpu (and_right (is_on_board image i && not (eqb i own) && eqb cpu.owner image.system.root.id) (is_running cpu.mode) rests) in
    subst IsHalting (sym same) (inr (record { asked = calm.asked; stopped = calm.stopped ∙ sym rests }))

pub open_begun : (image : Image) (configs : List CellConfig) (cpu : ℕ → Cpu) (own code a b : ℕ) → ((i : ℕ) → IsCalm (cpu i)) → is_on_board image own ≡ true → (cpu own).owner ≡ image.system.root.id → goes_on (cpu own) ≡ true
    → slice_get (program_ops image (name_of image.system.root) own) (cpu own).position ≡ Some (HvcOp code a b) → is_management (decoded code a b) ≡ true
    → IsOpen image configs (λ i. asked_by_begin image own i (cpu i)) (record { caller = own; call = decoded code a b; phase = ToDecide })
open_begun image configs cpu own code a b calm on root goes at management =
    let caller : IsCaller image own (decoded code a b) (cpu own) =
    record { board = on; owner = root; running = running_mode (cpu own) (goes_running (cpu own) goes); calm = calm own; code = code; a = a; b = b; at = at; asks = refl; management = management } in
    record {
      caller = subst (IsCaller image own (decoded code a b)) (sym (begun_own image own (cpu own))) caller;
      roots = λ i here other is. begun_root image own i (cpu i) (is_running (cpu i).mode) refl here other (sym (begun_owner image own i (cpu i)) ∙ is) (calm i);
      cells = λ i is. subst IsCalm (sym (begun_cells image own i (cpu i) (λ e. is (begun_owner image own i (cpu i) ∙ e)))) (calm i);
      absent = λ i off. subst IsCalm (sym (begun_absent image own i (cpu i) off)) (calm i);
      phase = tt;
    }

-- ---- the end of a call

resumed_owner : (root : ℕ) (cpu : Cpu) → (resumed_of_root root cpu).owner ≡ cpu.owner
resumed_owner root cpu =
    let same : Cpu → Type 0 = λ c. c.owner ≡ cpu.owner in
    cond_both (eqb cpu.owner root) (resumed cpu) cpu same (λ _. refl) (λ _. refl)

pub finished_owner : (image : Image) (own i : ℕ) (cpu : Cpu) → (cpu_by_finish image own i cpu).owner ≡ cpu.owner
finished_owner image own i cpu =
    let same : Cpu → Type 0 = λ c. c.owner ≡ cpu.owner in
    let there : Cpu = resumed_of_root image.system.root.id cpu in
    cond_both (eqb i own) (moved there) there same (λ _. resumed_owner image.system.root.id cpu) (λ _. resumed_owner image.system.root.id cpu)

pub owned_finished : (image : Image) (configs : List CellConfig) (cpu : ℕ → Cpu) (own : ℕ) → AreOwned image configs cpu → AreOwned image configs (λ i. cpu_by_finish image own i (cpu i))
owned_finished image configs cpu own owned = owned_kept image configs cpu (λ i. cpu_by_finish image own i (cpu i)) (λ i. finished_owner image own i (cpu i)) owned

-- whether the CPU comes back is asked of root's alone
resumed_calm : (root : ℕ) (cpu : Cpu) → cpu.asked ≡ false → (cpu.owner ≢ root → IsCalm cpu) → IsCalm (resumed_of_root root cpu)
resumed_calm root cpu asked calm =
    cond_both (eqb cpu.owner root) (resumed cpu) cpu IsCalm
    (λ _. record { asked = asked; stopped = refl })
    (λ no. calm (λ e. both_ways (eqb cpu.owner root) no (eq-eqb cpu.owner root e)))

finished_calm : (image : Image) (own i : ℕ) (cpu : Cpu) → cpu.asked ≡ false → (cpu.owner ≢ image.system.root.id → IsCalm cpu) → IsCalm (cpu_by_finish image own i cpu)
finished_calm image own i cpu asked calm =
    let there : Cpu = resumed_of_root image.system.root.id cpu in
    let h : IsCalm there = resumed_calm image.system.root.id cpu asked calm in
    cond_both (eqb i own) (moved there) there IsCalm (λ _. record { asked = h.asked; stopped = h.stopped }) (λ _. h)

-- in its last phase no CPU is asked
asked_by : (image : Image) (configs : List CellConfig) (cpu : ℕ → Cpu) (caller : ℕ) (call : Call) (answer : ℤ) (i : ℕ) (on root own : Bool) → is_on_board image i ≡ on → eqb (cpu i).owner image.system.root.id ≡ root → eqb i caller ≡ own
    → IsOpen image configs cpu (record { caller = caller; call = call; phase = ToFinish answer }) → (cpu i).asked ≡ false
asked_by image configs cpu caller call answer i false root own off is who opens = (opens.absent i off).asked
asked_by image configs cpu caller call answer i true false own on is who opens = (opens.cells i (λ e. both_ways (eqb (cpu i).owner image.system.root.id) is (eq-eqb (cpu i).owner image.system.root.id e))).asked
asked_by image configs cpu caller call answer i true true true on is who opens =
    let P : ℕ → Type 0 = λ k. (cpu k).asked ≡ false in
    subst P (sym (eqb-true i caller who)) opens.caller.calm.asked
asked_by image configs cpu caller call answer i true true false on is who opens =
    (opens.roots i on (λ e. both_ways (eqb i caller) who (eq-eqb i caller e)) (eqb-true (cpu i).owner image.system.root.id is)).asked

pub calm_finished : (image : Image) (configs : List CellConfig) (cpu : ℕ → Cpu) (caller own : ℕ) (call : Call) (answer : ℤ) → IsOpen image configs cpu (record { caller = caller; call = call; phase = ToFinish answer })
    → (i : ℕ) → IsCalm (cpu_by_finish image own i (cpu i))
calm_finished image configs cpu caller own call answer opens i =
    finished_calm image own i (cpu i)
    (asked_by image configs cpu caller call answer i (is_on_board image i) (eqb (cpu i).owner image.system.root.id) (eqb i caller) refl refl refl opens)
    (λ other. opens.cells i other)
