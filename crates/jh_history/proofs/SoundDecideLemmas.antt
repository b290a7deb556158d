-- What the Decide and the Settle of a call leave sound.
use Rattle.std.proofs.Common.{◌≡◌, ◌≢◌, ℕ, ◌/◌, ◌<◌, List, [], ◌∷◌, ◌++◌, Bool, true, false, cond, not, ◌&&◌, eqb, ℤ, Option, Some, None, is_some, refl, sym, ap, subst, ◌∙◌, inl, inr, ⊎_elim, arith}
use Rattle.std.specs.Prelude.{Contains, find, option_map}
use Rattle.std.specs.List.{list_any}
use Rattle.std.proofs.lemmas.Bool.{both_ways, and_parts, cond_both, eqb-true, eq-eqb, ne_eqb, cases_lt, not-true, false_from_ne_true}
use Rattle.std.proofs.lemmas.Option.{none-some}
use Rattle.jh_num.proofs.Public.{IsFound_from_find, Contains_map, below_at}
use Rattle.jh_num.specs.declared.error.TheConstants.{EPERM, ENOENT, EINVAL}
use Rattle.jh_cellcfg.specs.declared.config.CellConfig.{CellConfig}
use Rattle.jh_cellcfg.specs.declared.live.Live.{Live}
use Rattle.jh_cellcfg.specs.Lives.{has_id}
use Rattle.jh_cellcfg.specs.Cells.{is_cpu_set}
use Rattle.jh_check.specs.Clean.{IsClean}
use Rattle.jh_num.specs.Below.{any_below}
use Rattle.jh_check.specs.Refusals.{refusal_of, IsAccepted}
use Rattle.jh_check.proofs.Public.{zero_names, joins_clean, accepted_from}
use Rattle.jh_shape.specs.Pages.{pages_of}
use Rattle.jh_cpu.specs.declared.cpu.Cpu.{Cpu}
use Rattle.jh_cpu.specs.Changes.{asked_of}
use Rattle.jh_call.specs.declared.call.Call.{Call}
use Rattle.jh_call.specs.declared.call.Call.TheVariants.{Create, Start, Loadable, Destroy, Info, State, CpuInfo, CpuOff, CpuOn, Affinity, Unknown}
use Rattle.jh_call.specs.Calls.{is_management}
use Rattle.jh_script.specs.declared.image.Image.{Image}
use Rattle.jh_history.specs.declared.call.Creation.TheVariants.{Refused}
use Rattle.jh_history.specs.declared.call.Phase.{Phase}
use Rattle.jh_history.specs.declared.call.Phase.TheVariants.{ToDecide, ToSettle, ToCreate, ToCommit, ToNote, ToNoted, ToFinish}
use Rattle.jh_history.specs.declared.entry.Settled.{Settled}
use Rattle.jh_history.specs.declared.entry.Settled.TheVariants.{Agreed, Denied, Timeout}
use Rattle.jh_history.specs.Facts.{Facts}
use Rattle.jh_history.specs.Lives.{is_on_board, live_in, cell_in}
use Rattle.jh_history.specs.Admitted.{pool_pages}
use Rattle.jh_history.specs.Calls.{is_named, after_decide, after_settle}
use Rattle.jh_history.specs.declared.reading.ReadCell.{ReadCell}
use Rattle.jh_history.specs.declared.reading.ReadCell.TheVariants.{Reads, Refuses}
use Rattle.jh_history.specs.Configs.{read_at, config_read}
use Rattle.jh_history.specs.Cpus.{is_running, cpu_by_settle, is_undenied}
use Rattle.jh_history.specs.History.{coming_by}
use Rattle.jh_history.specs.Phases.{keeps_decide, may_give, is_locked, is_other_locked, unless_refused, creation_by, creation_of, refused_by, id_refusal, first_refusal, decision}
use Rattle.jh_shape.specs.Lives.{configs_of}
use Rattle.jh_history.specs.Sound.{AreSoundCells, AreOwned, IsCalm, IsHalted, IsAsked, IsHalting, HaltsForCall, HaltsForCommit, IsCaller, IsAboutLive, MayBeCreated, IsInPhase, IsOpen}
use Rattle.jh_history.proofs.SoundCpusLemmas.{owned_kept, named_same, root_unnamed, running_mode}

-- the board's CPUs are below 16
pub board_few : (image : Image) (configs : List CellConfig) → IsClean image.system configs → (cpu : ℕ) → is_on_board image cpu ≡ true → cpu < 16
board_few image configs clean cpu on =
    let bitmap = clean.cpus 0 image.system.root refl in
    elim (cases_lt cpu 16) [
      | inl lt ↦ lt
      | inr le ↦ absurd (both_ways (is_on_board image cpu) (zero_names image.system.root.cpu_set cpu (bitmap.few (cpu / 8) (omega arith))) on)
    ]

-- ---- phases in which root's other CPUs have stopped, and no CPU of a cell is asked

abbrev pub IsLate : Phase → Type 0
IsLate ToDecide = ⊥
IsLate (ToSettle waited) = Unit {0}
IsLate (ToCreate config) = Unit {0}
IsLate ToCommit = ⊥
IsLate (ToNote id about answer) = Unit {0}
IsLate (ToNoted id about answer waited) = Unit {0}
IsLate (ToFinish answer) = Unit {0}

late_come : (phase : Phase) (cpu : Cpu) → IsLate phase → IsHalted cpu → HaltsForCall phase cpu
late_come ToDecide cpu late h = absurd late
late_come (ToSettle waited) cpu late h = h
late_come (ToCreate config) cpu late h = h
late_come ToCommit cpu late h = h
late_come (ToNote id about answer) cpu late h = h
late_come (ToNoted id about answer waited) cpu late h = h
late_come (ToFinish answer) cpu late h = h

late_goes : (call : Call) (phase : Phase) (cpu : Cpu) → IsLate phase → IsCalm cpu → HaltsForCommit call phase cpu
late_goes call ToDecide cpu late h = h
late_goes call (ToSettle waited) cpu late h = h
late_goes call (ToCreate config) cpu late h = h
late_goes call ToCommit cpu late h = absurd late
late_goes call (ToNote id about answer) cpu late h = h
late_goes call (ToNoted id about answer waited) cpu late h = h
late_goes call (ToFinish answer) cpu late h = h

-- a call that has come to such a phase
pub open_late : (image : Image) (configs : List CellConfig) (cpu : ℕ → Cpu) (caller : ℕ) (call : Call) (phase : Phase) → IsLate phase → IsCaller image caller call (cpu caller)
    → ((i : ℕ) → is_on_board image i ≡ true → i ≢ caller → (cpu i).owner ≡ image.system.root.id → IsHalted (cpu i))
    → ((i : ℕ) → (cpu i).owner ≢ image.system.root.id → IsCalm (cpu i))
    → ((i : ℕ) → is_on_board image i ≡ false → IsCalm (cpu i))
    → IsInPhase image configs cpu caller call phase
    → IsOpen image configs cpu (record { caller = caller; call = call; phase = phase })
open_late image configs cpu caller call phase late is_caller roots cells absent in_phase = record {
  caller = is_caller;
  roots = λ i on other is. late_come phase (cpu i) late (roots i on other is);
  cells = λ i is. late_goes call phase (cpu i) late (cells i is);
  absent = absent;
  phase = in_phase;
}

-- ---- the Decide

-- what is found by its id
pub found_live : (cells : List Live) (id : ℕ) (live : Live) → find (has_id id) cells ≡ Some live → Contains (configs_of cells) live.config × (live.config.id ≡ id)
found_live cells id live h =
    let found = IsFound_from_find (has_id id) cells live h in
    (Contains_map (λ (l : Live). l.config) cells live found.among, eqb-true live.config.id id found.passes)

-- a live cell besides root has the id
abbrev pub IsLiveId : List CellConfig → ℕ → Type 0
IsLiveId configs id = (config : CellConfig) × Contains configs config × (config.id ≡ id)

live_by : (cells : List Live) (id : ℕ) (o : Option Live) → find (has_id id) cells ≡ o → is_some (option_map (λ (l : Live). l.config) o) ≡ true → IsLiveId (configs_of cells) id
live_by cells id None e some = absurd (both_ways false refl some)
live_by cells id (Some live) e some = let found = found_live cells id live e in (live.config, found.0, found.1)

-- an id that isn't refused is that of such a cell
named_by : (image : Image) (f : Facts) (id : ℕ) (root some : Bool) → eqb id image.system.root.id ≡ root → is_some (cond root (Some image.system.root) (live_in f.cells id)) ≡ some
    → cond some (cond root (Some EINVAL) None) (Some ENOENT) ≡ None → IsLiveId (configs_of f.cells) id
named_by image f id true true is some h = absurd (none-some EINVAL (sym h))
named_by image f id root false is some h = absurd (none-some ENOENT (sym h))
named_by image f id false true is some h = live_by f.cells id (find (has_id id) f.cells) refl some

named_live : (image : Image) (f : Facts) (id : ℕ) → id_refusal image f id ≡ None → IsLiveId (configs_of f.cells) id
named_live image f id h = named_by image f id (eqb id image.system.root.id) (is_some (cell_in image f.cells id)) refl refl h

not_refused : (o : Option ℤ) (locked : Bool) → first_refusal o locked ≡ None → o ≡ None
not_refused None locked h = refl
not_refused (Some number) locked h = absurd (none-some number (sym h))

-- a create that isn't refused has read a configuration that may come
pub record IsComing (image : Image) (f : Facts) (caller : ℕ) (read : ReadCell) : Type 0 where
  pub config : CellConfig
  pub reads : read ≡ Reads config
  pub good : refusal_of image.system (configs_of f.cells) config (may_give image f caller) (pages_of image.system.root.memory_regions (configs_of f.cells ++ config ∷ [])) (pool_pages image.system) ≡ None

coming_at : (config : CellConfig) (o : Option ℤ) → refused_by (unless_refused config o) ≡ None → o ≡ None
coming_at config None h = refl
coming_at config (Some number) h = absurd (none-some number (sym h))

coming_read : (image : Image) (f : Facts) (caller : ℕ) (read : ReadCell) → refused_by (creation_by image f caller read) ≡ None → IsComing image f caller read
coming_read image f caller (Refuses number) h = absurd (none-some number (sym h))
coming_read image f caller (Reads config) h = record {
  config = config;
  reads = refl;
  good = coming_at config
      (refusal_of image.system (configs_of f.cells) config (may_give image f caller) (pages_of image.system.root.memory_regions (configs_of f.cells ++ config ∷ [])) (pool_pages image.system)) h;
}

coming_by_lock : (image : Image) (f : Facts) (caller at : ℕ) (b : Bool) → refused_by (cond b (Refused EPERM) (creation_by image f caller (read_at image f at))) ≡ None → IsComing image f caller (read_at image f at)
coming_by_lock image f caller at true h = absurd (none-some EPERM (sym h))
coming_by_lock image f caller at false h = coming_read image f caller (read_at image f at) h

pub coming_from_decision : (image : Image) (f : Facts) (caller at : ℕ) → refused_by (creation_of image f caller at) ≡ None → IsComing image f caller (read_at image f at)
unfolding creation_of
coming_from_decision image f caller at h = coming_by_lock image f caller at (list_any (is_locked f) f.cells) h

may_come : (image : Image) (f : Facts) (caller : ℕ) (config : CellConfig) → IsClean image.system (configs_of f.cells)
    → IsAccepted image.system (configs_of f.cells) config (may_give image f caller) (pages_of image.system.root.memory_regions (configs_of f.cells ++ config ∷ [])) (pool_pages image.system)
    → MayBeCreated image (configs_of f.cells) f.cpu caller config
may_come image f caller config clean accepted =
    let root : ℕ = image.system.root.id in
    let gives : (i : ℕ) → is_cpu_set config.cpu_set i ≡ true → (is_on_board image i && not (eqb i caller) && eqb (f.cpu i).owner root) ≡ true = accepted.cpus in
    let first : (i : ℕ) → is_cpu_set config.cpu_set i ≡ true → ((is_on_board image i && not (eqb i caller)) ≡ true) × (eqb (f.cpu i).owner root ≡ true) =
    λ i set. and_parts (is_on_board image i && not (eqb i caller)) (eqb (f.cpu i).owner root) (gives i set) in
    let second : (i : ℕ) → is_cpu_set config.cpu_set i ≡ true → (is_on_board image i ≡ true) × (not (eqb i caller) ≡ true) =
    λ i set. and_parts (is_on_board image i) (not (eqb i caller)) ((first i set).0) in
    record {
      unknown = accepted.unknown;
      board = λ i set. (second i set).0;
      other = λ i set e. both_ways (eqb i caller) (not-true (eqb i caller) ((second i set).1)) (eq-eqb i caller e);
      owner = λ i set. eqb-true (f.cpu i).owner root ((first i set).1);
      clean = joins_clean image.system (configs_of f.cells) config clean accepted.clean;
      room = accepted.room;
    }

-- what the phase behind the Decide holds
abbrev IsDecided : Image → Facts → ℕ → Call → Phase → Type 0
IsDecided image f caller call phase = IsLate phase × IsInPhase image (configs_of f.cells) f.cpu caller call phase

decided_create : (image : Image) (f : Facts) (caller at : ℕ) (o : Option ℤ) → IsClean image.system (configs_of f.cells) → refused_by (creation_of image f caller at) ≡ o → IsDecided image f caller (Create at) (after_decide (Create at) (config_read (read_at image f at)) o)
decided_create image f caller at (Some number) clean h = (tt, tt)
decided_create image f caller at None clean h =
    let coming = coming_from_decision image f caller at h in
    let P : ReadCell → Type 0 = λ r. IsDecided image f caller (Create at) (after_decide (Create at) (config_read r) None) in
    let accepted = accepted_from image.system (configs_of f.cells) coming.config (may_give image f caller)
    (pages_of image.system.root.memory_regions (configs_of f.cells ++ coming.config ∷ [])) (pool_pages image.system) coming.good in
    subst P (sym coming.reads) (tt, (tt, may_come image f caller coming.config clean accepted))

decided_start : (image : Image) (f : Facts) (caller id : ℕ) (o : Option ℤ) → id_refusal image f id ≡ o → IsDecided image f caller (Start id) (after_decide (Start id) None o)
decided_start image f caller id (Some number) h = (tt, tt)
decided_start image f caller id None h = let live = named_live image f id h in (tt, (live.0, live.1, eq-eqb id live.0.id (sym live.2)))

decided_loadable : (image : Image) (f : Facts) (caller id : ℕ) (o : Option ℤ) → id_refusal image f id ≡ o → IsDecided image f caller (Loadable id) (after_decide (Loadable id) None o)
decided_loadable image f caller id (Some number) h = (tt, tt)
decided_loadable image f caller id None h = let live = named_live image f id h in (tt, (live.0, live.1, eq-eqb id live.0.id (sym live.2)))

decided_destroy : (image : Image) (f : Facts) (caller id : ℕ) (locked : Bool) (o : Option ℤ) → first_refusal (id_refusal image f id) locked ≡ o → IsDecided image f caller (Destroy id) (after_decide (Destroy id) None o)
decided_destroy image f caller id locked (Some number) h = (tt, tt)
decided_destroy image f caller id locked None h =
    let live = named_live image f id (not_refused (id_refusal image f id) locked h) in (tt, (live.0, live.1, eq-eqb id live.0.id (sym live.2)))

decided_phase : (image : Image) (f : Facts) (caller : ℕ) (call : Call) → is_management call ≡ true → IsClean image.system (configs_of f.cells) → IsDecided image f caller call (after_decide call (coming_by image f call) (decision image f caller call))
decided_phase image f caller (Create at) manages clean = decided_create image f caller at (refused_by (creation_of image f caller at)) clean refl
decided_phase image f caller (Start id) manages clean = decided_start image f caller id (id_refusal image f id) refl
decided_phase image f caller (Loadable id) manages clean = decided_loadable image f caller id (id_refusal image f id) refl
decided_phase image f caller (Destroy id) manages clean =
    let locked : Bool = list_any (is_other_locked f id) f.cells in
    decided_destroy image f caller id locked (first_refusal (id_refusal image f id) locked) refl
decided_phase image f caller (Info kind) manages clean = absurd (both_ways false refl manages)
decided_phase image f caller (State id) manages clean = absurd (both_ways false refl manages)
decided_phase image f caller (CpuInfo cpu kind) manages clean = absurd (both_ways false refl manages)
decided_phase image f caller CpuOff manages clean = absurd (both_ways false refl manages)
decided_phase image f caller (CpuOn on) manages clean = absurd (both_ways false refl manages)
decided_phase image f caller (Affinity on level) manages clean = absurd (both_ways false refl manages)
decided_phase image f caller Unknown manages clean = absurd (both_ways false refl manages)

-- a Decide is due once all have stopped
pub halted_to_decide : (image : Image) (caller i : ℕ) (cpu : ℕ → Cpu) → i < 16 → any_below (λ k. keeps_decide image caller k (cpu k)) 16 ≡ false → is_on_board image i ≡ true → i ≢ caller → (cpu i).owner ≡ image.system.root.id
    → IsHalting (cpu i) → IsHalted (cpu i)
halted_to_decide image caller i cpu few none on other is h =
    ⊎_elim
    (λ (asked : IsAsked (cpu i)).
    let keeps : keeps_decide image caller i (cpu i) ≡ true = rw (on, ne_eqb i caller other, eq-eqb (cpu i).owner image.system.root.id is, asked.running, asked.stopped) refl in
    absurd (both_ways (any_below (λ k. keeps_decide image caller k (cpu k)) 16) none (below_at (λ k. keeps_decide image caller k (cpu k)) 16 i few keeps)))
    (λ (halted : IsHalted (cpu i)). halted)
    h

pub open_decided : (image : Image) (f : Facts) (caller : ℕ) (call : Call) → AreSoundCells image.system (configs_of f.cells) → IsOpen image (configs_of f.cells) f.cpu (record { caller = caller; call = call; phase = ToDecide })
    → any_below (λ k. keeps_decide image caller k (f.cpu k)) 16 ≡ false
    → IsOpen image (configs_of f.cells) f.cpu (record { caller = caller; call = call; phase = after_decide call (coming_by image f call) (decision image f caller call) })
open_decided image f caller call sound opens none =
    let next = decided_phase image f caller call opens.caller.management sound.clean in
    open_late image (configs_of f.cells) f.cpu caller call (after_decide call (coming_by image f call) (decision image f caller call)) next.0 opens.caller
    (λ i on other is. halted_to_decide image caller i f.cpu (board_few image (configs_of f.cells) sound.clean i on) none on other is (opens.roots i on other is))
    opens.cells
    opens.absent
    next.1

-- ---- the Settle

-- a CPU that the board lacks isn't one of the cell that the call is about
pub absent_unnamed : (image : Image) (configs : List CellConfig) (cpu : ℕ → Cpu) (call : Call) (i : ℕ) → AreOwned image configs cpu → IsAboutLive configs call → is_on_board image i ≡ false → is_named call (cpu i).owner ≡ false
absent_unnamed image configs cpu call i owned about off =
    false_from_ne_true (is_named call (cpu i).owner)
    (λ yes.
    let has = owned.cells about.0 about.1 in
    both_ways (is_on_board image i) off (has.board i (has.named i (named_same call (cpu i).owner about.0.id yes about.2))))

pub settled_owner : (agreed : Bool) (call : Call) (cpu : Cpu) → (cpu_by_settle agreed call cpu).owner ≡ cpu.owner
settled_owner agreed call cpu =
    let same : Cpu → Type 0 = λ c. c.owner ≡ cpu.owner in
    cond_both (agreed && is_named call cpu.owner && is_running cpu.mode) (asked_of cpu) cpu same (λ _. refl) (λ _. refl)

pub owned_settled : (image : Image) (configs : List CellConfig) (cpu : ℕ → Cpu) (agreed : Bool) (call : Call) → AreOwned image configs cpu → AreOwned image configs (λ i. cpu_by_settle agreed call (cpu i))
owned_settled image configs cpu agreed call owned = owned_kept image configs cpu (λ i. cpu_by_settle agreed call (cpu i)) (λ i. settled_owner agreed call (cpu i)) owned

-- only CPUs of the cell that the call is about are asked
settled_other : (call : Call) (cpu : Cpu) → is_named call cpu.owner ≡ false → cpu_by_settle true call cpu ≡ cpu
settled_other call cpu other = rw other refl

settled_named : (call : Call) (cpu : Cpu) (b : Bool) → is_running cpu.mode ≡ b → is_named call cpu.owner ≡ true → IsCalm cpu → IsHalting (cpu_by_settle true call cpu)
settled_named call cpu true runs named calm =
    let asked : cpu_by_settle true call cpu ≡ asked_of cpu = rw (named, runs) refl in
    subst IsHalting (sym asked) (inl (record { asked = refl; stopped = calm.stopped; running = running_mode cpu runs }))
settled_named call cpu false rests named calm =
    let same : cpu_by_settle true call cpu ≡ cpu = rw (named, rests) refl in
    subst IsHalting (sym same) (inr (record { asked = calm.asked; stopped = calm.stopped ∙ sym rests }))

-- the cell has agreed
open_agreed : (image : Image) (configs : List CellConfig) (cpu : ℕ → Cpu) (caller waited : ℕ) (call : Call) → AreSoundCells image.system configs → AreOwned image configs cpu
    → IsOpen image configs cpu (record { caller = caller; call = call; phase = ToSettle waited })
    → IsOpen image configs (λ i. cpu_by_settle true call (cpu i)) (record { caller = caller; call = call; phase = ToCommit })
open_agreed image configs cpu caller waited call sound owned opens =
    let root : ℕ = image.system.root.id in
    let about : IsAboutLive configs call = opens.phase in
    let unnamed : is_named call root ≡ false = root_unnamed image.system configs call sound about in
    let roots_same : (i : ℕ) → (cpu i).owner ≡ root → cpu_by_settle true call (cpu i) ≡ cpu i = λ i is. settled_other call (cpu i) (ap (is_named call) is ∙ unnamed) in
    let owner : (i : ℕ) → (cpu_by_settle true call (cpu i)).owner ≡ (cpu i).owner = λ i. settled_owner true call (cpu i) in
    record {
      caller = subst (IsCaller image caller call) (sym (roots_same caller opens.caller.owner)) opens.caller;
      roots = λ i on other is. let was : (cpu i).owner ≡ root = sym (owner i) ∙ is in subst IsHalted (sym (roots_same i was)) (opens.roots i on other was);
      cells = λ i is.
          let calm : IsCalm (cpu i) = opens.cells i (λ e. is (owner i ∙ e)) in (
            λ named. settled_named call (cpu i) (is_running (cpu i).mode) refl (ap (is_named call) (sym (owner i)) ∙ named) calm,
            λ other. subst IsCalm (sym (settled_other call (cpu i) (ap (is_named call) (sym (owner i)) ∙ other))) calm,
          );
      absent = λ i off. subst IsCalm (sym (settled_other call (cpu i) (absent_unnamed image configs cpu call i owned about off))) (opens.absent i off);
      phase = about;
    }

pub open_settled : (image : Image) (configs : List CellConfig) (cpu : ℕ → Cpu) (caller waited : ℕ) (call : Call) (how : Settled) → AreSoundCells image.system configs → AreOwned image configs cpu
    → IsOpen image configs cpu (record { caller = caller; call = call; phase = ToSettle waited })
    → IsOpen image configs (λ i. cpu_by_settle (is_undenied how) call (cpu i)) (record { caller = caller; call = call; phase = after_settle how })
open_settled image configs cpu caller waited call Agreed sound owned opens = open_agreed image configs cpu caller waited call sound owned opens
open_settled image configs cpu caller waited call Timeout sound owned opens = open_agreed image configs cpu caller waited call sound owned opens
open_settled image configs cpu caller waited call Denied sound owned opens = record { caller = opens.caller; roots = opens.roots; cells = opens.cells; absent = opens.absent; phase = tt }
