-- What the hypervisor writes into pages, by its causes.
use Rattle.std.proofs.Common.{◌≡◌, ℕ, ◌∷◌, length, Some, All, refl, sym, ap, subst, ⊎_elim}
use Rattle.std.specs.Prelude.{◌≤◌}
use Rattle.std.proofs.lemmas.Bool.{false≢true}
use Rattle.jh_cellcfg.specs.declared.config.CellConfig.{CellConfig}
use Rattle.jh_call.specs.declared.call.Call.TheVariants.{Create}
use Rattle.jh_script.specs.declared.image.Preload.{Preload}
use Rattle.jh_history.specs.declared.call.Phase.TheVariants.{ToCreate}
use Rattle.jh_history.specs.declared.comm.PageChange.TheVariants.{State, Message, Fresh}
use Rattle.jh_history.specs.declared.place.Place.{Place}
use Rattle.jh_history.specs.declared.place.Place.TheVariants.{Physical, Page}
use Rattle.jh_history.specs.Pages.{page_write_by}
use Rattle.jh_history.specs.Sound.{AreBytes}
use Rattle.jh_history.proofs.Public.{IsLegal_begin}
use Rattle.jh_laws.specs.Moments.{AdmittedMoment, facts_before}
use Rattle.jh_laws.specs.Pages.{page_before, page_behind, HasNewState, HasNewMessage, IsFreshPage, SendsMessage, Fails, SetsState, RenewsPage, ChangesPage, Creates, Starts}
use Rattle.jh_laws.specs.Written.{Puts}
use Rattle.jh_laws.proofs.FewCellsLemmas.{IsTypedBoard, legal_typed, typed_phase}
use Rattle.jh_laws.proofs.PageLemmas.{changed_by, new_state, new_message, fresh}
use Rattle.jh_laws.proofs.PageCauseLemmas.{asks_write, settles_write, loses_write, loadable_write, creating_call, creates_write, starts_write, changes}
use Rattle.jh_laws.proofs.WordLemmas.{is_physical}
use Rattle.jh_laws.proofs.WrittenLemmas.{entry_keeps}

-- ---- messages, states and fresh pages

pub sends : (m : AdmittedMoment) (id message : ℕ) → SendsMessage m id message → HasNewMessage message (page_before m id) (page_behind m id)
sends m id message h =
    let Q : ℕ → Type 0 = λ n. HasNewMessage n (page_before m id) (page_behind m id) in
    ⊎_elim
    (λ asks. subst Q (sym asks.1) (new_message 1 (page_before m id) (page_behind m id) (changed_by m.image m.form m.before m.entry id (Message 1) (asks_write m id asks.0)) (refl, refl, refl, refl)))
    (λ notes.
    subst Q (sym notes.1) (new_message 2 (page_before m id) (page_behind m id) (changed_by m.image m.form m.before m.entry id (Message 2) (ap (page_write_by m.image (facts_before m) m.entry) notes.0)) (refl, refl, refl, refl)))
    h

fails_write : (m : AdmittedMoment) (id : ℕ) → Fails m id → page_write_by m.image (facts_before m) m.entry m.entry.act ≡ Some (record { cell = id; change = State 3 })
fails_write m id h =
    ⊎_elim
    (λ settles. settles_write m id settles)
    (λ more. ⊎_elim (λ unheard. ap (page_write_by m.image (facts_before m) m.entry) unheard) (λ loses. loses_write m id loses) more)
    h

pub sets : (m : AdmittedMoment) (id state : ℕ) → SetsState m id state → HasNewState state (page_before m id) (page_behind m id)
sets m id state h =
    let Q : ℕ → Type 0 = λ n. HasNewState n (page_before m id) (page_behind m id) in
    ⊎_elim
    (λ fails. subst Q (sym fails.1) (new_state 3 (page_before m id) (page_behind m id) (changed_by m.image m.form m.before m.entry id (State 3) (fails_write m id fails.0)) (refl, refl, refl, refl)))
    (λ makes. subst Q (sym makes.1) (new_state 2 (page_before m id) (page_behind m id) (changed_by m.image m.form m.before m.entry id (State 2) (loadable_write m id makes.0)) (refl, refl, refl, refl)))
    h

-- the console is no longer than its place
typed_at : (m : AdmittedMoment) → All (λ (p : Preload). AreBytes p.bytes) m.image.preloads → IsTypedBoard (facts_before m)
typed_at m bytes = legal_typed m.image m.form m.before m.admitted bytes (IsLegal_begin m.image m.form m.before (m.entry ∷ m.rest) m.legal)

few_created : (m : AdmittedMoment) (config : CellConfig) → Creates m config → IsTypedBoard (facts_before m) → length config.console ≤ 32
few_created m config h typed = (typed_phase (facts_before m).call (record { caller = m.entry.cpu; call = Create h.at; phase = ToCreate config }) (creating_call m config h) typed.call).few

few_started : (m : AdmittedMoment) (config : CellConfig) → Starts m config → IsTypedBoard (facts_before m) → length config.console ≤ 32
few_started m config h typed = (typed.cells config h.lives).few

pub renews : (m : AdmittedMoment) (config : CellConfig) (state : ℕ) → RenewsPage m config state → All (λ (p : Preload). AreBytes p.bytes) m.image.preloads
    → IsFreshPage config m.image.system.platform.pci_mmconfig_base state (page_behind m config.id)
renews m config state h bytes =
    let ecam : ℕ = m.image.system.platform.pci_mmconfig_base in
    let typed = typed_at m bytes in
    let Q : ℕ → Type 0 = λ n. IsFreshPage config ecam n (page_behind m config.id) in
    ⊎_elim
    (λ creates.
    subst Q (sym creates.1) (fresh config ecam 2 (page_before m config.id) (page_behind m config.id) (changed_by m.image m.form m.before m.entry config.id (Fresh 2 config.console ecam) (creates_write m config creates.0)) (few_created m config creates.0 typed) (refl, refl, refl, refl)))
    (λ starts.
    subst Q (sym starts.1) (fresh config ecam 0 (page_before m config.id) (page_behind m config.id) (changed_by m.image m.form m.before m.entry config.id (Fresh 0 config.console ecam) (starts_write m config starts.0)) (few_started m config starts.0 typed) (refl, refl, refl, refl)))
    h

abbrev cell_of_page : Place → ℕ
cell_of_page (Physical p) = 0
cell_of_page (Page cell offset) = cell

pub stays : (m : AdmittedMoment) (id offset : ℕ) → (ChangesPage m id → ⊥) → ((byte : ℕ) → Puts m.image (facts_before m).cells m.entry.cell m.entry.act (Page id offset) byte → ⊥)
    → page_behind m id offset ≡ page_before m id offset
stays m id offset none unput =
    entry_keeps m.image m.form m.before m.rest m.entry (Page id offset) m.admitted m.legal
    (λ byte writes.
    ⊎_elim
    (λ puts. unput byte puts)
    (λ more. ⊎_elim
    (λ word. false≢true (ap is_physical word.there))
    (λ paged.
    let P : ℕ → Type 0 = ChangesPage m in
    none (subst P (sym (ap cell_of_page paged.2.there)) (changes m paged.0 paged.1)))
    more)
    writes)
