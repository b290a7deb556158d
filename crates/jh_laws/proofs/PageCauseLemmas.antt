-- From what an entry is to what the hypervisor writes into a page with it, and back.
use Rattle.std.proofs.Common.{◌≡◌, ℕ, List, [], ◌∷◌, ◌++◌, Bool, true, false, cond, not, ◌&&◌, ◌||◌, eqb, Option, Some, None, is_some, refl, sym, ap, subst, ◌∙◌, inl, inr, ⊎_elim}
use Rattle.std.specs.Prelude.{Contains, find, option_map, option_and_then}
use Rattle.std.proofs.lemmas.Bool.{both_ways, and_parts, and_from, or_from, or_parts, cases_Bool, eqb-true, eq-eqb, ne_eqb, false≢true, not-true, false_from_ne_true}
use Rattle.std.proofs.lemmas.List.{append_cancel_left}
use Rattle.std.proofs.lemmas.Option.{none-some, same_Some}
use Rattle.jh_num.specs.Below.{any_below}
use Rattle.jh_num.proofs.Public.{below_at, below_of}
use Rattle.jh_cellcfg.specs.declared.config.CellConfig.{CellConfig}
use Rattle.jh_cellcfg.specs.declared.live.Live.{Live}
use Rattle.jh_cellcfg.specs.Cells.{is_passive}
use Rattle.jh_cellcfg.specs.Lives.{has_id}
use Rattle.jh_shape.specs.Lives.{configs_of, new_live}
use Rattle.jh_cpu.specs.declared.cpu.Cpu.{Cpu}
use Rattle.jh_cpu.specs.declared.cpu.Mode.{Mode}
use Rattle.jh_cpu.specs.declared.cpu.Mode.TheVariants.{Running, Parked, Failed}
use Rattle.jh_cpu.specs.Changes.{is_failed}
use Rattle.jh_call.specs.declared.call.Call.{Call}
use Rattle.jh_call.specs.declared.call.Call.TheVariants.{Create, Start, Loadable, Destroy}
use Rattle.jh_script.specs.declared.image.Image.{Image}
use Rattle.jh_history.specs.declared.call.OpenCall.{OpenCall}
use Rattle.jh_history.specs.declared.call.Phase.{Phase}
use Rattle.jh_history.specs.declared.call.Phase.TheVariants.{ToDecide, ToSettle, ToCreate, ToCommit, ToNote, ToNoted, ToFinish}
use Rattle.jh_history.specs.declared.comm.PageChange.TheVariants.{State, Message, Fresh}
use Rattle.jh_history.specs.declared.comm.PageWrite.{PageWrite}
use Rattle.jh_history.specs.declared.entry.Settled.TheVariants.{Timeout}
use Rattle.jh_history.specs.declared.entry.Heard.TheVariants.{Timeout as Unheard}
use Rattle.jh_history.specs.declared.entry.Act.{Act}
use Rattle.jh_history.specs.declared.entry.Act.TheVariants.{Read, Write, Fetch, Await, Decide, Settle, Commit, Note, Noted, Finish}
use Rattle.jh_history.specs.Calls.{is_named}
use Rattle.jh_history.specs.Commits.{cells_by, committed_cells, is_commit}
use Rattle.jh_history.specs.Cpus.{acted, runs_by_start}
use Rattle.jh_history.specs.Due.{due_at}
use Rattle.jh_history.specs.Facts.{Facts}
use Rattle.jh_history.specs.Lives.{is_on_board, live_in}
use Rattle.jh_history.specs.Pages.{named_cell, is_unfailed_of, failing, unless_good, asking, committing, on_page, page_write_by}
use Rattle.jh_history.specs.Sound.{IsAboutLive, IsCreate, IsInPhase, IsSound}
use Rattle.jh_history.proofs.Public.{IsLegal_begin, board_few, due_split, legal_sound}
use Rattle.jh_laws.specs.Moments.{AdmittedMoment, facts_before, facts_behind, state_behind, call_before}
use Rattle.jh_laws.specs.Outcomes.{is_violation}
use Rattle.jh_laws.specs.Pages.{IsCallAbout, IsCallOnCell, AsksToShutDown, SettlesByTime, LosesItsCpus, MakesLoadable, Creates, Starts, ChangesPage}
use Rattle.jh_laws.specs.Ways.{is_phase}
use Rattle.jh_laws.proofs.CallLemmas.{Expects, call_of_open, not_same}
use Rattle.jh_laws.proofs.DueCpusLemmas.{of_named, live_by_id}
use Rattle.jh_laws.proofs.FailedLemmas.{failing_of}
use Rattle.jh_laws.proofs.HeldLemmas.{live_found}
use Rattle.jh_laws.proofs.NewIdLemmas.{cells_behind}
use Rattle.jh_laws.proofs.StatesLemmas.{phase_begun, behind_cpu}

-- ---- the cell that a call is about

about_named : (call : Call) (id : ℕ) → IsCallAbout call id → is_named call id ≡ true
about_named (Start cell) id is = eq-eqb cell id is
about_named (Loadable cell) id is = eq-eqb cell id is
about_named (Destroy cell) id is = eq-eqb cell id is
about_named _ id is = absurd is

-- what is found is the cell that it is about
record IsAboutCell (cells : List Live) (call : Call) (config : CellConfig) : Type 0 where
  lives : Contains (configs_of cells) config
  about : IsCallAbout call config.id

named_about : (cells : List Live) (call : Call) (config : CellConfig) → named_cell cells call ≡ Some config → IsAboutCell cells call config
named_about cells (Start id) config h = let found = live_found cells id (find (has_id id) cells) config refl h in record { lives = found.0; about = sym found.1 }
named_about cells (Loadable id) config h = let found = live_found cells id (find (has_id id) cells) config refl h in record { lives = found.0; about = sym found.1 }
named_about cells (Destroy id) config h = let found = live_found cells id (find (has_id id) cells) config refl h in record { lives = found.0; about = sym found.1 }
named_about cells _ config h = absurd (none-some config h)

pub sound_at : (m : AdmittedMoment) → IsSound m.image (facts_before m)
sound_at m = legal_sound m.image m.form m.before m.admitted (IsLegal_begin m.image m.form m.before (m.entry ∷ m.rest) m.legal)

pub due_of : (m : AdmittedMoment) → due_at m.image (facts_before m) m.entry.cpu ≡ Some m.entry
due_of m = due_split m.image m.form m.before m.rest m.entry m.legal

-- the call that is open is about the cell
record IsOpenOn (m : AdmittedMoment) (config : CellConfig) : Type 0 where
  open_call : OpenCall
  is : (facts_before m).call ≡ Some open_call
  found : named_cell (facts_before m).cells open_call.call ≡ Some config

open_on : (m : AdmittedMoment) (config : CellConfig) → IsCallOnCell m config → is_phase m.entry.act ≡ true → IsOpenOn m config
open_on m config h phase =
    let of = phase_begun m.image m.form m.before m.rest m.entry h.call m.admitted m.legal h.begun phase in
    record {
      open_call = record { caller = m.entry.cpu; call = h.call; phase = of.phase };
      is = of.opens;
      found = of_named m.image (facts_before m).cells h.call config (sound_at m).cells h.lives (about_named h.call config.id h.about);
    }

-- ---- messages and states

pub asks_write : (m : AdmittedMoment) (id : ℕ) → AsksToShutDown m id → page_write_by m.image (facts_before m) m.entry m.entry.act ≡ Some (record { cell = id; change = Message 1 })
asks_write m id h =
    let f : Facts = facts_before m in
    let on = open_on m h.config h.call (ap is_phase h.goes) in
    ap (page_write_by m.image f m.entry) h.goes
    ∙ ap (option_and_then (λ (o : OpenCall). asking f.cells o.call)) on.is
    ∙ ap (option_and_then (λ (c : CellConfig). cond (is_passive c) None (Some (on_page (Message 1) c)))) on.found
    ∙ ap (λ (b : Bool). cond b None (Some (on_page (Message 1) h.config))) h.active
    ∙ ap (λ (k : ℕ). Some (record { cell = k; change = Message 1 })) h.named

pub settles_write : (m : AdmittedMoment) (id : ℕ) → SettlesByTime m id → page_write_by m.image (facts_before m) m.entry m.entry.act ≡ Some (record { cell = id; change = State 3 })
settles_write m id h =
    let f : Facts = facts_before m in
    let on = open_on m h.config h.call (ap is_phase h.late) in
    ap (page_write_by m.image f m.entry) h.late
    ∙ ap (option_and_then (λ (o : OpenCall). option_map (on_page (State 3)) (named_cell f.cells o.call))) on.is
    ∙ ap (option_map (on_page (State 3))) on.found
    ∙ ap (λ (k : ℕ). Some (record { cell = k; change = State 3 })) h.named

is_failed_mode : (mode : Mode) → is_failed mode ≡ true → mode ≡ Failed
is_failed_mode Failed h = refl
is_failed_mode Running h = absurd (false≢true h)
is_failed_mode Parked h = absurd (false≢true h)

pub loses_write : (m : AdmittedMoment) (id : ℕ) → LosesItsCpus m id → page_write_by m.image (facts_before m) m.entry m.entry.act ≡ Some (record { cell = id; change = State 3 })
loses_write m id h =
    let f : Facts = facts_before m in
    let test : ℕ → Bool = λ i. is_on_board m.image i && is_unfailed_of m.entry.cell (acted m.image (runs_by_start f i) f.call m.entry.act m.entry.cpu i (f.cpu i)) in
    let root : eqb m.entry.cell m.image.system.root.id ≡ false = ne_eqb m.entry.cell m.image.system.root.id (λ e. h.cell (sym h.own ∙ e)) in
    let none : any_below test 16 ≡ false =
    false_from_ne_true (any_below test 16)
    (λ yes.
    let one = below_of test 16 yes in
    let state : Cpu = acted m.image (runs_by_start f one.0) f.call m.entry.act m.entry.cpu one.0 (f.cpu one.0) in
    let parts = and_parts (is_on_board m.image one.0) (is_unfailed_of m.entry.cell state) one.2 in
    let more = and_parts (eqb state.owner m.entry.cell) (not (is_failed state.mode)) parts.1 in
    let same : state_behind m one.0 ≡ state = behind_cpu m.image m.form m.before m.entry one.0 in
    let owner : (state_behind m one.0).owner ≡ id = ap (λ (c : Cpu). c.owner) same ∙ eqb-true state.owner m.entry.cell more.0 ∙ h.own in
    let mode : state.mode ≡ Failed = ap (λ (c : Cpu). c.mode) (sym same) ∙ h.failed one.0 parts.0 owner in
    both_ways (is_failed state.mode) (not-true (is_failed state.mode) more.1) (ap is_failed mode)) in
    failing_of m.image f m.entry m.entry.act h.violates
    ∙ ap (λ (b : Bool). cond b None (Some (record { cell = m.entry.cell; change = State 3 }))) (or_from (eqb m.entry.cell m.image.system.root.id) (any_below test 16) root none)
    ∙ ap (λ (k : ℕ). Some (record { cell = k; change = State 3 })) h.own

-- ---- Commits

-- what a Commit writes, by the phase that it is made in
pub record IsCommitting (m : AdmittedMoment) (call : Call) : Type 0 where
  pub phase : Phase
  pub expects : Expects phase Commit
  pub holds : IsInPhase m.image (configs_of (facts_before m).cells) (facts_before m).cpu m.entry.cpu call phase
  pub opens : (facts_before m).call ≡ Some (record { caller = m.entry.cpu; call = call; phase = phase })
  pub writes : page_write_by m.image (facts_before m) m.entry m.entry.act ≡ committing m.image.system.platform.pci_mmconfig_base (facts_before m).cells call phase
  pub cells : (facts_behind m).cells ≡ committed_cells call phase (facts_before m).cells

pub committing_at : (m : AdmittedMoment) (call : Call) → call_before m ≡ Some call → m.entry.act ≡ Commit → IsCommitting m call
committing_at m call begun act =
    let f : Facts = facts_before m in
    let window : ℕ = m.image.system.platform.pci_mmconfig_base in
    let of = phase_begun m.image m.form m.before m.rest m.entry call m.admitted m.legal begun (ap is_phase act) in
    let E : Act → Type 0 = Expects of.phase in
    record {
      phase = of.phase;
      expects = subst E act of.expects;
      holds = of.holds;
      opens = of.opens;
      writes = ap (page_write_by m.image f m.entry) act ∙ ap (option_and_then (λ (o : OpenCall). committing window f.cells o.call o.phase)) of.opens;
      cells = cells_behind m.image m.form m.before m.entry ∙ ap (λ (c : Option OpenCall). cells_by c f.cells m.entry.act) of.opens ∙ ap (cells_by (Some (record { caller = m.entry.cpu; call = call; phase = of.phase })) f.cells) act;
    }

pub commit_lives : (image : Image) (configs : List CellConfig) (cpu : ℕ → Cpu) (caller : ℕ) (call : Call) (phase : Phase) → (IsCreate call → ⊥) → Expects phase Commit → IsInPhase image configs cpu caller call phase → IsAboutLive configs call
commit_lives image configs cpu caller call ToDecide other e h = absurd (not_same is_commit Commit (Decide e.0) refl refl e.1)
commit_lives image configs cpu caller call (ToSettle waited) other e h = absurd (not_same is_commit Commit (Settle e.0) refl refl e.1)
commit_lives image configs cpu caller call (ToCreate config) other e h = absurd (other h.0)
commit_lives image configs cpu caller call ToCommit other e h = h
commit_lives image configs cpu caller call (ToNote told about answer) other e h = absurd (not_same is_commit Commit (Note told) refl refl e)
commit_lives image configs cpu caller call (ToNoted told about answer waited) other e h = absurd (not_same is_commit Commit (Noted told e.0) refl refl e.1)
commit_lives image configs cpu caller call (ToFinish answer) other e h = absurd (not_same is_commit Commit (Finish answer) refl refl e)

pub loadable_write : (m : AdmittedMoment) (id : ℕ) → MakesLoadable m id → page_write_by m.image (facts_before m) m.entry m.entry.act ≡ Some (record { cell = id; change = State 2 })
loadable_write m id h =
    let f : Facts = facts_before m in
    let at = committing_at m (Loadable id) h.begun h.commits in
    let live = commit_lives m.image (configs_of f.cells) f.cpu m.entry.cpu (Loadable id) at.phase (λ none. none) at.expects at.holds in
    at.writes
    ∙ ap (option_map (on_page (State 2))) (of_named m.image f.cells (Loadable id) live.0 (sound_at m).cells live.1 live.2)
    ∙ ap (λ (k : ℕ). Some (record { cell = k; change = State 2 })) (sym (eqb-true id live.0.id live.2))

-- the configuration of the first
abbrev first_config : CellConfig → List Live → CellConfig
first_config other [] = other
first_config other (live ∷ lives) = live.config

creating_phase : (image : Image) (cells : List Live) (cpu : ℕ → Cpu) (caller at : ℕ) (config : CellConfig) (phase : Phase) → Expects phase Commit → IsInPhase image (configs_of cells) cpu caller (Create at) phase
    → committed_cells (Create at) phase cells ≡ cells ++ new_live config ∷ [] → phase ≡ ToCreate config
creating_phase image cells cpu caller at config ToDecide e h made = absurd (not_same is_commit Commit (Decide e.0) refl refl e.1)
creating_phase image cells cpu caller at config (ToSettle waited) e h made = absurd (not_same is_commit Commit (Settle e.0) refl refl e.1)
creating_phase image cells cpu caller at config (ToCreate coming) e h made = ap (λ (lives : List Live). ToCreate (first_config config lives)) (append_cancel_left cells (new_live coming ∷ []) (new_live config ∷ []) made)
creating_phase image cells cpu caller at config ToCommit e h made = absurd (both_ways false refl h.2)
creating_phase image cells cpu caller at config (ToNote id about answer) e h made = absurd (not_same is_commit Commit (Note id) refl refl e)
creating_phase image cells cpu caller at config (ToNoted id about answer waited) e h made = absurd (not_same is_commit Commit (Noted id e.0) refl refl e.1)
creating_phase image cells cpu caller at config (ToFinish answer) e h made = absurd (not_same is_commit Commit (Finish answer) refl refl e)

-- the call is about to make the cell
pub creating_call : (m : AdmittedMoment) (config : CellConfig) (h : Creates m config) → (facts_before m).call ≡ Some (record { caller = m.entry.cpu; call = Create h.at; phase = ToCreate config })
creating_call m config h =
    let f : Facts = facts_before m in
    let at = committing_at m (Create h.at) h.begun h.commits in
    let phase = creating_phase m.image f.cells f.cpu m.entry.cpu h.at config at.phase at.expects at.holds (sym at.cells ∙ h.joins) in
    at.opens ∙ ap (λ (p : Phase). Some (record { caller = m.entry.cpu; call = Create h.at; phase = p })) phase

pub creates_write : (m : AdmittedMoment) (config : CellConfig) → Creates m config
    → page_write_by m.image (facts_before m) m.entry m.entry.act ≡ Some (record { cell = config.id; change = Fresh 2 config.console m.image.system.platform.pci_mmconfig_base })
creates_write m config h =
    let f : Facts = facts_before m in
    let window : ℕ = m.image.system.platform.pci_mmconfig_base in
    ap (page_write_by m.image f m.entry) h.commits ∙ ap (option_and_then (λ (o : OpenCall). committing window f.cells o.call o.phase)) (creating_call m config h)

pub starts_write : (m : AdmittedMoment) (config : CellConfig) → Starts m config
    → page_write_by m.image (facts_before m) m.entry m.entry.act ≡ Some (record { cell = config.id; change = Fresh 0 config.console m.image.system.platform.pci_mmconfig_base })
starts_write m config h =
    let f : Facts = facts_before m in
    let window : ℕ = m.image.system.platform.pci_mmconfig_base in
    let at = committing_at m (Start config.id) h.begun h.commits in
    at.writes ∙ ap (option_map (λ (c : CellConfig). on_page (Fresh 0 c.console window) c)) (live_by_id m.image f.cells config config.id (sound_at m).cells h.lives refl)

-- ---- and back

-- by a violation
loses_by : (m : AdmittedMoment) (w : PageWrite) → is_violation m.entry.act ≡ true → failing m.image (facts_before m) m.entry ≡ Some w → LosesItsCpus m w.cell
loses_by m w violates is = by_left left refl is
  where
    f : Facts
    f = facts_before m

    test : ℕ → Bool
    test i = is_on_board m.image i && is_unfailed_of m.entry.cell (acted m.image (runs_by_start f i) f.call m.entry.act m.entry.cpu i (f.cpu i))

    left : Bool
    left = eqb m.entry.cell m.image.system.root.id || any_below test 16

    by_left : (b : Bool) → left ≡ b → cond b None (Some (record { cell = m.entry.cell; change = State 3 })) ≡ Some w → LosesItsCpus m w.cell
    by_left true e h = absurd (none-some w h)
    by_left false e h =
        let own : m.entry.cell ≡ w.cell = ap (λ (v : PageWrite). v.cell) (same_Some (record { cell = m.entry.cell; change = State 3 }) w h) in
        let parts = or_parts (eqb m.entry.cell m.image.system.root.id) (any_below test 16) e in
        record {
          own = own;
          violates = violates;
          cell = λ root. both_ways (eqb m.entry.cell m.image.system.root.id) parts.0 (eq-eqb m.entry.cell m.image.system.root.id (own ∙ root));
          failed = λ cpu on owner.
              let state : Cpu = acted m.image (runs_by_start f cpu) f.call m.entry.act m.entry.cpu cpu (f.cpu cpu) in
              let same : state_behind m cpu ≡ state = behind_cpu m.image m.form m.before m.entry cpu in
              let owned : state.owner ≡ m.entry.cell = ap (λ (c : Cpu). c.owner) (sym same) ∙ owner ∙ sym own in
              ap (λ (c : Cpu). c.mode) same
              ∙ ⊎_elim
              (λ yes. is_failed_mode state.mode yes)
              (λ (no : is_failed state.mode ≡ false).
              let unfailed : is_unfailed_of m.entry.cell state ≡ true = and_from (eqb state.owner m.entry.cell) (not (is_failed state.mode)) (eq-eqb state.owner m.entry.cell owned) (ap not no) in
              let some : any_below test 16 ≡ true = below_at test 16 cpu (board_few m.image (configs_of f.cells) (sound_at m).cells.clean cpu on) (and_from (is_on_board m.image cpu) (is_unfailed_of m.entry.cell state) on unfailed) in
              absurd (both_ways (any_below test 16) parts.1 some))
              (cases_Bool (is_failed state.mode));
        }

fails_by : (m : AdmittedMoment) (w : PageWrite) (good : Bool) → (good ≡ false → is_violation m.entry.act ≡ true) → unless_good good (failing m.image (facts_before m) m.entry) ≡ Some w → ChangesPage m w.cell
fails_by m w true violates is = absurd (none-some w is)
fails_by m w false violates is = inr (inl (3, inl (inr (inr (loses_by m w (violates refl) is)), refl)))

-- by what the open call asks of its cell
call_on : (m : AdmittedMoment) (o : OpenCall) (config : CellConfig) → (facts_before m).call ≡ Some o → IsAboutCell (facts_before m).cells o.call config → IsCallOnCell m config
call_on m o config is h = record { call = o.call; begun = call_of_open m.image m.form m.before o is; about = h.about; lives = h.lives }

asks_cell : (m : AdmittedMoment) (w : PageWrite) (o : OpenCall) (found : Option CellConfig) → m.entry.act ≡ Decide None → (facts_before m).call ≡ Some o → named_cell (facts_before m).cells o.call ≡ found
    → option_and_then (λ (c : CellConfig). cond (is_passive c) None (Some (on_page (Message 1) c))) found ≡ Some w → AsksToShutDown m w.cell
asks_cell m w o None act is e h = absurd (none-some w h)
asks_cell m w o (Some c) act is e h = by_kind (is_passive c) refl h
  where
    by_kind : (b : Bool) → is_passive c ≡ b → cond b None (Some (on_page (Message 1) c)) ≡ Some w → AsksToShutDown m w.cell
    by_kind true passive none = absurd (none-some w none)
    by_kind false active some = record {
      config = c;
      named = ap (λ (v : PageWrite). v.cell) (same_Some (on_page (Message 1) c) w some);
      call = call_on m o c is (named_about (facts_before m).cells o.call c e);
      active = active;
      goes = act;
    }

asks_by : (m : AdmittedMoment) (w : PageWrite) (call : Option OpenCall) → m.entry.act ≡ Decide None → (facts_before m).call ≡ call → option_and_then (λ (o : OpenCall). asking (facts_before m).cells o.call) call ≡ Some w → AsksToShutDown m w.cell
asks_by m w None act is h = absurd (none-some w h)
asks_by m w (Some o) act is h = asks_cell m w o (named_cell (facts_before m).cells o.call) act is refl h

settles_cell : (m : AdmittedMoment) (w : PageWrite) (o : OpenCall) (found : Option CellConfig) → m.entry.act ≡ Settle Timeout → (facts_before m).call ≡ Some o → named_cell (facts_before m).cells o.call ≡ found
    → option_map (on_page (State 3)) found ≡ Some w → SettlesByTime m w.cell
settles_cell m w o None act is e h = absurd (none-some w h)
settles_cell m w o (Some c) act is e h = record {
  config = c;
  named = ap (λ (v : PageWrite). v.cell) (same_Some (on_page (State 3) c) w h);
  call = call_on m o c is (named_about (facts_before m).cells o.call c e);
  late = act;
}

settles_by : (m : AdmittedMoment) (w : PageWrite) (call : Option OpenCall) → m.entry.act ≡ Settle Timeout → (facts_before m).call ≡ call → option_and_then (λ (o : OpenCall). option_map (on_page (State 3)) (named_cell (facts_before m).cells o.call)) call ≡ Some w → SettlesByTime m w.cell
settles_by m w None act is h = absurd (none-some w h)
settles_by m w (Some o) act is h = settles_cell m w o (named_cell (facts_before m).cells o.call) act is refl h

-- by a Commit
made_behind : (m : AdmittedMoment) (caller : ℕ) (call : Call) (phase : Phase) → m.entry.act ≡ Commit → (facts_before m).call ≡ Some (record { caller = caller; call = call; phase = phase }) → (facts_behind m).cells ≡ committed_cells call phase (facts_before m).cells
made_behind m caller call phase act is =
    let f : Facts = facts_before m in
    cells_behind m.image m.form m.before m.entry ∙ ap (λ (c : Option OpenCall). cells_by c f.cells m.entry.act) is ∙ ap (cells_by (Some (record { caller = caller; call = call; phase = phase })) f.cells) act

creates_by : (m : AdmittedMoment) (w : PageWrite) (caller at : ℕ) (phase : Phase) → m.entry.act ≡ Commit → (facts_before m).call ≡ Some (record { caller = caller; call = Create at; phase = phase })
    → committing m.image.system.platform.pci_mmconfig_base (facts_before m).cells (Create at) phase ≡ Some w → ChangesPage m w.cell
creates_by m w caller at (ToCreate config) act is h =
    let o : OpenCall = record { caller = caller; call = Create at; phase = ToCreate config } in
    let write : PageWrite = on_page (Fresh 2 config.console m.image.system.platform.pci_mmconfig_base) config in
    let creates : Creates m config = record { at = at; begun = call_of_open m.image m.form m.before o is; commits = act; joins = made_behind m caller (Create at) (ToCreate config) act is } in
    inr (inr (config, 2, ap (λ (v : PageWrite). v.cell) (same_Some write w h), inl (creates, refl)))
creates_by m w caller at _ act is h = absurd (none-some w h)

starts_by : (m : AdmittedMoment) (w : PageWrite) (o : OpenCall) (id : ℕ) (found : Option CellConfig) → m.entry.act ≡ Commit → (facts_before m).call ≡ Some o → o.call ≡ Start id → live_in (facts_before m).cells id ≡ found
    → option_map (λ (c : CellConfig). on_page (Fresh 0 c.console m.image.system.platform.pci_mmconfig_base) c) found ≡ Some w → ChangesPage m w.cell
starts_by m w o id None act is call e h = absurd (none-some w h)
starts_by m w o id (Some c) act is call e h =
    let write : PageWrite = on_page (Fresh 0 c.console m.image.system.platform.pci_mmconfig_base) c in
    let about = live_found (facts_before m).cells id (find (has_id id) (facts_before m).cells) c refl e in
    let starts : Starts m c = record { begun = call_of_open m.image m.form m.before o is ∙ ap (λ (k : Call). Some k) call ∙ ap (λ (k : ℕ). Some (Start k)) (sym about.1); commits = act; lives = about.0 } in
    inr (inr (c, 0, ap (λ (v : PageWrite). v.cell) (same_Some write w h), inr (starts, refl)))

loadable_by : (m : AdmittedMoment) (w : PageWrite) (o : OpenCall) (id : ℕ) (found : Option CellConfig) → m.entry.act ≡ Commit → (facts_before m).call ≡ Some o → o.call ≡ Loadable id → live_in (facts_before m).cells id ≡ found
    → option_map (on_page (State 2)) found ≡ Some w → ChangesPage m w.cell
loadable_by m w o id None act is call e h = absurd (none-some w h)
loadable_by m w o id (Some c) act is call e h =
    let about = live_found (facts_before m).cells id (find (has_id id) (facts_before m).cells) c refl e in
    let same : id ≡ w.cell = sym about.1 ∙ ap (λ (v : PageWrite). v.cell) (same_Some (on_page (State 2) c) w h) in
    let makes : MakesLoadable m w.cell = record { begun = call_of_open m.image m.form m.before o is ∙ ap (λ (k : Call). Some k) call ∙ ap (λ (k : ℕ). Some (Loadable k)) same; commits = act } in
    inr (inl (2, inr (makes, refl)))

commits_by : (m : AdmittedMoment) (w : PageWrite) (caller : ℕ) (call : Call) (phase : Phase) → m.entry.act ≡ Commit → (facts_before m).call ≡ Some (record { caller = caller; call = call; phase = phase })
    → committing m.image.system.platform.pci_mmconfig_base (facts_before m).cells call phase ≡ Some w → ChangesPage m w.cell
commits_by m w caller (Create at) phase act is h = creates_by m w caller at phase act is h
commits_by m w caller (Start id) phase act is h = starts_by m w (record { caller = caller; call = Start id; phase = phase }) id (live_in (facts_before m).cells id) act is refl refl h
commits_by m w caller (Loadable id) phase act is h = loadable_by m w (record { caller = caller; call = Loadable id; phase = phase }) id (live_in (facts_before m).cells id) act is refl refl h
commits_by m w caller _ phase act is h = absurd (none-some w h)

commits_open : (m : AdmittedMoment) (w : PageWrite) (call : Option OpenCall) → m.entry.act ≡ Commit → (facts_before m).call ≡ call
    → option_and_then (λ (o : OpenCall). committing m.image.system.platform.pci_mmconfig_base (facts_before m).cells o.call o.phase) call ≡ Some w → ChangesPage m w.cell
commits_open m w None act is h = absurd (none-some w h)
commits_open m w (Some o) act is h = commits_by m w o.caller o.call o.phase act is h

-- what is written into a page has one of its causes
changes_by : (m : AdmittedMoment) (w : PageWrite) (act : Act) → m.entry.act ≡ act → page_write_by m.image (facts_before m) m.entry act ≡ Some w → ChangesPage m w.cell
changes_by m w (Read width at got) e is = fails_by m w (is_some got) (λ none. ap is_violation e ∙ ap not none) is
changes_by m w (Write width at value ok) e is = fails_by m w ok (λ none. ap is_violation e ∙ ap not none) is
changes_by m w (Fetch at got) e is = fails_by m w (is_some got) (λ none. ap is_violation e ∙ ap not none) is
changes_by m w (Await width at value ok) e is = fails_by m w ok (λ none. ap is_violation e ∙ ap not none) is
changes_by m w (Decide None) e is = inl (1, inl (asks_by m w (facts_before m).call e refl is, refl))
changes_by m w (Settle Timeout) e is = inr (inl (3, inl (inl (settles_by m w (facts_before m).call e refl is), refl)))
changes_by m w Commit e is = commits_open m w (facts_before m).call e refl is
changes_by m w (Note id) e is =
    let same : id ≡ w.cell = ap (λ (v : PageWrite). v.cell) (same_Some (record { cell = id; change = Message 2 }) w is) in
    inl (2, inr (e ∙ ap Note same, refl))
changes_by m w (Noted id Unheard) e is =
    let same : id ≡ w.cell = ap (λ (v : PageWrite). v.cell) (same_Some (record { cell = id; change = State 3 }) w is) in
    inr (inl (3, inl (inr (inl (e ∙ ap (λ (k : ℕ). Noted k Unheard) same)), refl)))
changes_by m w _ e is = absurd (none-some w is)

pub changes : (m : AdmittedMoment) (w : PageWrite) → page_write_by m.image (facts_before m) m.entry m.entry.act ≡ Some w → ChangesPage m w.cell
changes m w is = changes_by m w m.entry.act refl is
