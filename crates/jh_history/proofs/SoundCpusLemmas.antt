-- CPUs of a sound board, one at a time: what changes leave of being asked, halted and calm, and whose they are.
use Rattle.std.proofs.Common.{◌≡◌, ◌≢◌, ℕ, suc, List, true, false, not, ◌&&◌, eqb, get_or, refl, sym, ap, subst, ◌∙◌, inr, ⊎_elim, arith}
use Rattle.std.specs.Prelude.{Contains, nat_eq}
use Rattle.std.specs.Cmp.Lexicographic.{pointwise}
use Rattle.std.proofs.lemmas.Bool.{both_ways, or_parts, and_parts, cond_both, eqb-true, eq-eqb, false_from_ne_true, not-true}
use Rattle.jh_cellcfg.specs.declared.config.CellConfig.{CellConfig}
use Rattle.jh_cellcfg.specs.declared.config.SystemConfig.{SystemConfig}
use Rattle.jh_cellcfg.specs.Cells.{name_of}
use Rattle.jh_check.specs.Refusals.{AreTwo}
use Rattle.jh_cpu.specs.declared.cpu.Cpu.{Cpu}
use Rattle.jh_cpu.specs.declared.cpu.Mode.{Mode}
use Rattle.jh_cpu.specs.declared.cpu.Mode.TheVariants.{Running, Parked, Failed}
use Rattle.jh_cpu.specs.Changes.{stopped_of}
use Rattle.jh_call.specs.declared.call.Call.{Call}
use Rattle.jh_call.specs.declared.call.Call.TheVariants.{Create, Start, Loadable, Destroy, Info, State, CpuInfo, CpuOff, CpuOn, Affinity, Unknown}
use Rattle.jh_script.specs.declared.image.Image.{Image}
use Rattle.jh_history.specs.declared.call.Phase.{Phase}
use Rattle.jh_history.specs.declared.call.Phase.TheVariants.{ToDecide, ToSettle, ToCreate, ToCommit, ToNote, ToNoted, ToFinish}
use Rattle.jh_history.specs.declared.change.Change.{Change}
use Rattle.jh_history.specs.declared.change.Change.TheVariants.{Stay, Step, Fail, Stop as Halt}
use Rattle.jh_history.specs.Calls.{is_named, counted}
use Rattle.jh_num.specs.Numbers.{counted_up}
use Rattle.jh_history.specs.Cpus.{changed, is_running}
use Rattle.jh_history.specs.Wants.{goes_on}
use Rattle.jh_history.specs.Sound.{AreSoundCells, IsOwner, AreOwned, IsCalm, IsHalted, IsAsked, IsHalting, HaltsForCall, HaltsForCommit, IsAboutLive, MayBeCreated, IsInPhase}

-- ---- one CPU

-- a change that the operation of a CPU makes to it
abbrev pub IsMild : Change → Type 0
IsMild Stay = Unit {0}
IsMild Step = Unit {0}
IsMild Fail = Unit {0}
IsMild Halt = ⊥

pub mild_calm : (change : Change) (cpu : Cpu) → IsMild change → IsCalm cpu → IsCalm (changed change cpu)
mild_calm Stay cpu mild calm = calm
mild_calm Step cpu mild calm = record { asked = calm.asked; stopped = calm.stopped }
mild_calm Fail cpu mild calm = record { asked = calm.asked; stopped = calm.stopped }
mild_calm Halt cpu mild calm = absurd mild

pub changed_owner : (change : Change) (cpu : Cpu) → (changed change cpu).owner ≡ cpu.owner
changed_owner Stay cpu = refl
changed_owner Step cpu = refl
changed_owner Fail cpu = refl
changed_owner Halt cpu = refl

-- a CPU that goes on with its program is calm and runs
pub goes_calm : (cpu : Cpu) → goes_on cpu ≡ true → IsCalm cpu
goes_calm cpu h =
    let parts = and_parts (not cpu.asked && not cpu.stopped) (is_running cpu.mode) h in
    let calm = and_parts (not cpu.asked) (not cpu.stopped) parts.0 in
    record { asked = not-true cpu.asked calm.0; stopped = not-true cpu.stopped calm.1 }

pub goes_running : (cpu : Cpu) → goes_on cpu ≡ true → is_running cpu.mode ≡ true
goes_running cpu h = (and_parts (not cpu.asked && not cpu.stopped) (is_running cpu.mode) h).1

mode_running : (mode : Mode) → is_running mode ≡ true → mode ≡ Running
mode_running Running h = refl
mode_running Parked h = absurd (both_ways false refl h)
mode_running Failed h = absurd (both_ways false refl h)

pub running_mode : (cpu : Cpu) → is_running cpu.mode ≡ true → cpu.mode ≡ Running
running_mode cpu h = mode_running cpu.mode h

-- one that is asked, halted or asked until it is halted doesn't
pub halted_rests : (cpu : Cpu) → IsHalted cpu → goes_on cpu ≡ true → ⊥
halted_rests cpu halted h = both_ways cpu.stopped (goes_calm cpu h).stopped (halted.stopped ∙ goes_running cpu h)

pub halting_rests : (cpu : Cpu) → IsHalting cpu → goes_on cpu ≡ true → ⊥
halting_rests cpu h on =
    ⊎_elim
    (λ (asked : IsAsked cpu). both_ways cpu.asked (goes_calm cpu on).asked asked.asked)
    (λ (halted : IsHalted cpu). halted_rests cpu halted on)
    h

pub come_rests : (phase : Phase) (cpu : Cpu) → HaltsForCall phase cpu → goes_on cpu ≡ true → ⊥
come_rests ToDecide cpu h = halting_rests cpu h
come_rests (ToSettle waited) cpu h = halted_rests cpu h
come_rests (ToCreate config) cpu h = halted_rests cpu h
come_rests ToCommit cpu h = halted_rests cpu h
come_rests (ToNote id about answer) cpu h = halted_rests cpu h
come_rests (ToNoted id about answer waited) cpu h = halted_rests cpu h
come_rests (ToFinish answer) cpu h = halted_rests cpu h

-- one that is asked to stop has stopped
pub stopped_halted : (cpu : Cpu) → IsAsked cpu → IsHalted (stopped_of cpu)
stopped_halted cpu asked = record { asked = refl; stopped = sym (ap is_running asked.running) }

pub stopped_halting : (cpu : Cpu) → cpu.asked ≡ true → IsHalting cpu → IsHalted (stopped_of cpu)
stopped_halting cpu is h =
    ⊎_elim
    (λ (asked : IsAsked cpu). stopped_halted cpu asked)
    (λ (halted : IsHalted cpu). absurd (both_ways cpu.asked halted.asked is))
    h

not_asked : (cpu : Cpu) {X : Type 0} → cpu.asked ≡ true → IsHalted cpu → X
not_asked cpu is halted = absurd (both_ways cpu.asked halted.asked is)

not_calm : (cpu : Cpu) {X : Type 0} → cpu.asked ≡ true → IsCalm cpu → X
not_calm cpu is calm = absurd (both_ways cpu.asked calm.asked is)

pub come_stopped : (phase : Phase) (cpu : Cpu) → cpu.asked ≡ true → HaltsForCall phase cpu → HaltsForCall phase (stopped_of cpu)
come_stopped ToDecide cpu is h = inr (stopped_halting cpu is h)
come_stopped (ToSettle waited) cpu is h = not_asked cpu is h
come_stopped (ToCreate config) cpu is h = not_asked cpu is h
come_stopped ToCommit cpu is h = not_asked cpu is h
come_stopped (ToNote id about answer) cpu is h = not_asked cpu is h
come_stopped (ToNoted id about answer waited) cpu is h = not_asked cpu is h
come_stopped (ToFinish answer) cpu is h = not_asked cpu is h

pub goes_stopped : (call : Call) (phase : Phase) (cpu : Cpu) → cpu.asked ≡ true → HaltsForCommit call phase cpu → HaltsForCommit call phase (stopped_of cpu)
goes_stopped call ToDecide cpu is h = not_calm cpu is h
goes_stopped call (ToSettle waited) cpu is h = not_calm cpu is h
goes_stopped call (ToCreate config) cpu is h = not_calm cpu is h
goes_stopped call ToCommit cpu is h = (λ named. inr (stopped_halting cpu is (h.0 named)), λ other. not_calm cpu is (h.1 other))
goes_stopped call (ToNote id about answer) cpu is h = not_calm cpu is h
goes_stopped call (ToNoted id about answer waited) cpu is h = not_calm cpu is h
goes_stopped call (ToFinish answer) cpu is h = not_calm cpu is h

-- a CPU of a cell that goes on makes its operation, and goes on as before
pub goes_mild : (call : Call) (phase : Phase) (change : Change) (cpu : Cpu) → IsMild change → goes_on cpu ≡ true → HaltsForCommit call phase cpu → HaltsForCommit call phase (changed change cpu)
goes_mild call ToDecide change cpu mild on h = mild_calm change cpu mild h
goes_mild call (ToSettle waited) change cpu mild on h = mild_calm change cpu mild h
goes_mild call (ToCreate config) change cpu mild on h = mild_calm change cpu mild h
goes_mild call ToCommit change cpu mild on h = (
  λ named. absurd (halting_rests cpu (h.0 (ap (is_named call) (sym (changed_owner change cpu)) ∙ named)) on),
  λ other. mild_calm change cpu mild (goes_calm cpu on),
)
goes_mild call (ToNote id about answer) change cpu mild on h = mild_calm change cpu mild h
goes_mild call (ToNoted id about answer waited) change cpu mild on h = mild_calm change cpu mild h
goes_mild call (ToFinish answer) change cpu mild on h = mild_calm change cpu mild h

-- ---- counting

pub come_counted : (cell : ℕ) (call : Call) (phase : Phase) (cpu : Cpu) → HaltsForCall phase cpu → HaltsForCall (counted cell call phase) cpu
come_counted cell call ToDecide cpu h = h
come_counted cell call (ToSettle waited) cpu h = cond_both (is_named call cell) (ToSettle (counted_up waited)) (ToSettle waited) (λ (p : Phase). HaltsForCall p cpu) (λ _. h) (λ _. h)
come_counted cell call (ToCreate config) cpu h = h
come_counted cell call ToCommit cpu h = h
come_counted cell call (ToNote id about answer) cpu h = h
come_counted cell call (ToNoted id about answer waited) cpu h = cond_both (eqb cell id) (ToNoted id about answer (counted_up waited)) (ToNoted id about answer waited) (λ (p : Phase). HaltsForCall p cpu) (λ _. h) (λ _. h)
come_counted cell call (ToFinish answer) cpu h = h

pub goes_counted : (cell : ℕ) (call : Call) (phase : Phase) (cpu : Cpu) → HaltsForCommit call phase cpu → HaltsForCommit call (counted cell call phase) cpu
goes_counted cell call ToDecide cpu h = h
goes_counted cell call (ToSettle waited) cpu h = cond_both (is_named call cell) (ToSettle (counted_up waited)) (ToSettle waited) (λ (p : Phase). HaltsForCommit call p cpu) (λ _. h) (λ _. h)
goes_counted cell call (ToCreate config) cpu h = h
goes_counted cell call ToCommit cpu h = h
goes_counted cell call (ToNote id about answer) cpu h = h
goes_counted cell call (ToNoted id about answer waited) cpu h = cond_both (eqb cell id) (ToNoted id about answer (counted_up waited)) (ToNoted id about answer waited) (λ (p : Phase). HaltsForCommit call p cpu) (λ _. h) (λ _. h)
goes_counted cell call (ToFinish answer) cpu h = h

-- ---- whose CPUs are

-- where no CPU gets another owner, each cell keeps its CPUs
pub owned_kept : (image : Image) (configs : List CellConfig) (cpu cpu' : ℕ → Cpu) → ((i : ℕ) → (cpu' i).owner ≡ (cpu i).owner) → AreOwned image configs cpu → AreOwned image configs cpu'
owned_kept image configs cpu cpu' same owned =
    let P : ℕ → Type 0 = IsOwner image configs in
    record {
      cells = λ config held.
          let h = owned.cells config held in
          record { owned = λ i set. same i ∙ h.owned i set; named = λ i is. h.named i (sym (same i) ∙ is); board = h.board };
      others = λ i. subst P (sym (same i)) (owned.others i);
    }

pub come_kept : (image : Image) (configs : List CellConfig) (cpu cpu' : ℕ → Cpu) (caller : ℕ) (config : CellConfig) → ((i : ℕ) → (cpu' i).owner ≡ (cpu i).owner) → MayBeCreated image configs cpu caller config → MayBeCreated image configs cpu' caller config
come_kept image configs cpu cpu' caller config same may = record {
  unknown = may.unknown;
  board = may.board;
  other = may.other;
  owner = λ i set. same i ∙ may.owner i set;
  clean = may.clean;
  room = may.room;
}

-- the phase holds with more entries counted, where no CPU gets another owner
pub phase_counted : (image : Image) (configs : List CellConfig) (cpu cpu' : ℕ → Cpu) (caller cell : ℕ) (call : Call) (phase : Phase) → ((i : ℕ) → (cpu' i).owner ≡ (cpu i).owner)
    → IsInPhase image configs cpu caller call phase → IsInPhase image configs cpu' caller call (counted cell call phase)
phase_counted image configs cpu cpu' caller cell call ToDecide same h = tt
phase_counted image configs cpu cpu' caller cell call (ToSettle waited) same h =
    cond_both (is_named call cell) (ToSettle (counted_up waited)) (ToSettle waited) (λ (p : Phase). IsInPhase image configs cpu' caller call p) (λ _. h) (λ _. h)
phase_counted image configs cpu cpu' caller cell call (ToCreate config) same h = (h.0, come_kept image configs cpu cpu' caller config same h.1)
phase_counted image configs cpu cpu' caller cell call ToCommit same h = h
phase_counted image configs cpu cpu' caller cell call (ToNote id about answer) same h = h
phase_counted image configs cpu cpu' caller cell call (ToNoted id about answer waited) same h =
    cond_both (eqb cell id) (ToNoted id about answer (counted_up waited)) (ToNoted id about answer waited) (λ (p : Phase). IsInPhase image configs cpu' caller call p) (λ _. h) (λ _. h)
phase_counted image configs cpu cpu' caller cell call (ToFinish answer) same h = tt

-- ---- names and ids

-- a cell of the list has another id than root
pub other_root : (system : SystemConfig) (configs : List CellConfig) (config : CellConfig) → AreSoundCells system configs → Contains configs config → config.id ≢ system.root.id
other_root system configs config sound held is =
    let two : AreTwo system.root (get_or configs held.0 config) = sound.differ 0 (suc held.0) config (omega arith) (omega arith) in
    let P : CellConfig → Type 0 = λ c. AreTwo system.root c in
    let apart : eqb system.root.id config.id ≡ false = (or_parts (eqb system.root.id config.id) (pointwise nat_eq (name_of system.root) (name_of config)) (subst P held.2 two)).0 in
    both_ways (eqb system.root.id config.id) apart (eq-eqb system.root.id config.id (sym is))

-- a call names one id
pub named_same : (call : Call) (a b : ℕ) → is_named call a ≡ true → is_named call b ≡ true → a ≡ b
named_same (Create at) a b h k = absurd (both_ways false refl h)
named_same (Start id) a b h k = sym (eqb-true id a h) ∙ eqb-true id b k
named_same (Loadable id) a b h k = sym (eqb-true id a h) ∙ eqb-true id b k
named_same (Destroy id) a b h k = sym (eqb-true id a h) ∙ eqb-true id b k
named_same (Info kind) a b h k = absurd (both_ways false refl h)
named_same (State id) a b h k = absurd (both_ways false refl h)
named_same (CpuInfo cpu kind) a b h k = absurd (both_ways false refl h)
named_same CpuOff a b h k = absurd (both_ways false refl h)
named_same (CpuOn on) a b h k = absurd (both_ways false refl h)
named_same (Affinity on level) a b h k = absurd (both_ways false refl h)
named_same Unknown a b h k = absurd (both_ways false refl h)

-- a call about a live cell isn't about root
pub root_unnamed : (system : SystemConfig) (configs : List CellConfig) (call : Call) → AreSoundCells system configs → IsAboutLive configs call → is_named call system.root.id ≡ false
root_unnamed system configs call sound about =
    false_from_ne_true (is_named call system.root.id)
    (λ yes. other_root system configs about.0 sound about.1 (named_same call about.0.id system.root.id about.2 yes))
