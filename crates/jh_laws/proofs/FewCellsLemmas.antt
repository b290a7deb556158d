-- Over a legal journal what it leaves keeps to its types: bytes are bytes, and ids, registers and answers have their
-- bits. Root keeps a CPU: so at most 15 cells live besides it.
use Rattle.std.proofs.Common.{◌≡◌, ◌≢◌, ℕ, ℤ, pos, suc, ◌<◌, ◌≤◌, List, [], ◌∷◌, ◌++◌, Bool, true, false, cond, ◌&&◌, ◌||◌, eqb, length, get_or, map, Option, Some, None, is_some, refl, sym, ap, subst, ◌∙◌, ⊎_elim, arith}
use Rattle.std.specs.Prelude.{◌^◌, AllPairs, Contains, FitsSigned, IfSome, filter, find, option_map, option_and_then}
use Rattle.std.specs.Int.{w64}
use Rattle.std.specs.List.{fold}
use Rattle.std.specs.Option.{option_map_or}
use Rattle.std.proofs.lemmas.Bool.{both_ways, cond_both}
use Rattle.std.proofs.lemmas.List.Elements.{Contains-push_cases}
use Rattle.std.proofs.lemmas.Option.{none-some, same_Some, slice_get-get_or, get_or_from_slice_get}
use Rattle.jh_num.proofs.Public.{Contains_cases, IsFound_from_filter}
use Rattle.jh_cellcfg.specs.declared.config.CellConfig.{CellConfig}
use Rattle.jh_cellcfg.specs.declared.live.Live.{Live}
use Rattle.jh_cellcfg.specs.declared.fault.ConfigFault.{ConfigFault}
use Rattle.jh_cellcfg.specs.Cells.{is_passive}
use Rattle.jh_cellcfg.specs.Lives.{has_id}
use Rattle.jh_cellcfg.specs.Faults.{header_fault, size_by_header}
use Rattle.jh_cellcfg.specs.Reading.{config_of}
use Rattle.jh_num.specs.Below.{any_below}
use Rattle.jh_check.specs.Refusals.{AreTwo}
use Rattle.jh_check.proofs.Public.{sound_set}
use Rattle.jh_comm.specs.declared.words.TheConstants.{STATE_RUNNING, STATE_SHUT_DOWN, STATE_FAILED, MESSAGE_SHUTDOWN_REQUEST}
use Rattle.jh_cpu.specs.declared.cpu.Cpu.{Cpu}
use Rattle.jh_call.specs.declared.call.Call.{Call}
use Rattle.jh_call.specs.Calls.{decoded}
use Rattle.jh_call.specs.declared.call.Call.TheVariants.{Create, Start, Loadable, Destroy}
use Rattle.jh_script.specs.declared.image.Image.{Image}
use Rattle.jh_history.specs.declared.form.Form.{Form}
use Rattle.jh_history.specs.declared.place.Place.{Place}
use Rattle.jh_history.specs.declared.access.Access.TheVariants.{Read as ToRead, Write as ToWrite}
use Rattle.jh_history.specs.declared.call.OpenCall.{OpenCall}
use Rattle.jh_history.specs.declared.call.Phase.{Phase}
use Rattle.jh_history.specs.declared.call.Phase.TheVariants.{ToDecide, ToSettle, ToCreate, ToCommit, ToNote, ToNoted, ToFinish}
use Rattle.jh_history.specs.declared.comm.PageChange.TheVariants.{State as NewState, Message, Fresh}
use Rattle.jh_history.specs.declared.entry.Entry.{Entry}
use Rattle.jh_history.specs.declared.entry.Settled.{Settled}
use Rattle.jh_history.specs.declared.entry.Settled.TheVariants.{Agreed, Denied, Timeout}
use Rattle.jh_history.specs.declared.entry.Heard.TheVariants.{Timeout as Unheard}
use Rattle.jh_history.specs.declared.entry.Act.{Act}
use Rattle.jh_history.specs.declared.entry.Act.TheVariants.{Read, Write, Fetch, Await, Hvc, Begin, Decide, Settle, Commit, Note, Noted, Finish}
use Rattle.jh_history.specs.Access.{places_from}
use Rattle.jh_history.specs.Facts.{Facts}
use Rattle.jh_history.specs.Lives.{is_on_board, live_in}
use Rattle.jh_history.specs.Grants.{granted, reach, devices_of}
use Rattle.jh_history.specs.Endpoints.{specs_changing, with_words}
use Rattle.jh_history.specs.Bytes.{byte_written, byte_after}
use Rattle.jh_history.specs.Calls.{is_named, counted, telling, first_recipient, listed_behind, after_decide, after_settle, after_commit, after_note, after_noted, phase_after, call_by}
use Rattle.jh_num.specs.Numbers.{counted_up}
use Rattle.jh_history.specs.Commits.{cells_by, committed_cells, is_other, is_commit}
use Rattle.jh_history.specs.Configs.{bytes_at, read_whole, read_behind, read_from, read_at, config_read}
use Rattle.jh_history.specs.Cpus.{acted, changed, change_of, cpu_by_settle, is_undenied, runs_by_start, cpu_after}
use Rattle.jh_history.specs.History.{start, after, facts, coming_by, coming_of}
use Rattle.jh_history.specs.Pages.{is_unfailed_of, failing, unless_good, asking, committing, named_cell, page_write_by, on_page}
use Rattle.jh_shape.specs.Lives.{configs_of, marked}
use Rattle.jh_shape.proofs.Public.{configs_marked}
use Rattle.jh_history.specs.Due.{due_at, IsLegal, IsLegalFrom}
use Rattle.jh_history.specs.Admitted.{IsAdmitted}
use Rattle.jh_history.specs.Sound.{IsMadeOfBytes, IsSound}
use Rattle.jh_history.proofs.Public.{configs_joined, configs_others, is_other_config, changed_owner, called_owner, board_few, found_live, settled_owner, begun_owner, finished_owner, sound_start, sound_after, legal_sound, after_call, call_open, two_ids}
use Rattle.jh_laws.proofs.FewLemmas.{IsTyped, ArePreloadsBytes, MayWriteBytes, page_write_small_holds, write_small, words_small, opening_small, config_typed, read_bytes, picked, picked_few, index_small, length_map, get_map}
use Rattle.jh_laws.proofs.RegisterLemmas.{HaveRegisters, registers_after, registers_open}
use Rattle.jh_laws.proofs.RefusalLemmas.{FitsRefusal, refusal_fits}

abbrev pub AreTyped : List CellConfig → Type 0
AreTyped configs = (config : CellConfig) → Contains configs config → IsTyped config

abbrev pub IsTypedPhase : Phase → Type 0
IsTypedPhase (ToCreate config) = IsTyped config
IsTypedPhase (ToNote id about answer) = FitsSigned w64 answer
IsTypedPhase (ToNoted id about answer waited) = FitsSigned w64 answer
IsTypedPhase (ToFinish answer) = FitsSigned w64 answer
IsTypedPhase _ = Unit {0}

abbrev pub IsTypedCall : Option OpenCall → Type 0
IsTypedCall None = Unit {0}
IsTypedCall (Some o) = IsTypedPhase o.phase

-- what holds keeps to its types
pub record IsTypedBoard (f : Facts) : Type 0 where
  pub bytes : (q : Place) → f.byte q < 256
  pub cells : AreTyped (configs_of f.cells)
  pub call : IsTypedCall f.call
  pub endpoints : HaveRegisters f.endpoints

-- a CPU of the board is root's
abbrev HasCpu : Image → (ℕ → Cpu) → Type 0
HasCpu image cpu = (i : ℕ) × (is_on_board image i ≡ true) × ((cpu i).owner ≡ image.system.root.id)

-- ---- the call

whole_typed : (image : Image) (f : Facts) (o : Option (List Place)) (config : CellConfig) → ((q : Place) → f.byte q < 256) → config_read (read_whole (option_map (map f.byte) o)) ≡ Some config → IsTyped config
whole_typed image f None config small h = absurd (none-some config h)
whole_typed image f (Some places) config small h =
    let P : CellConfig → Type 0 = IsTyped in
    subst P (same_Some (config_of (map f.byte places)) config h) (config_typed (map f.byte places) (read_bytes f.byte places small))

behind_typed : (image : Image) (f : Facts) (at : ℕ) (header : List ℕ) (fault : Option ConfigFault) (config : CellConfig) → ((q : Place) → f.byte q < 256) → config_read (read_behind (bytes_at image f at) header fault) ≡ Some config → IsTyped config
behind_typed image f at header None config small h = whole_typed image f (places_from (granted image f image.system.root.id ToRead) at (size_by_header header)) config small h
behind_typed image f at header (Some fault) config small h = absurd (none-some config h)

from_typed : (image : Image) (f : Facts) (at : ℕ) (o : Option (List ℕ)) (config : CellConfig) → ((q : Place) → f.byte q < 256) → config_read (read_from (bytes_at image f at) o) ≡ Some config → IsTyped config
from_typed image f at None config small h = absurd (none-some config h)
from_typed image f at (Some header) config small h = behind_typed image f at header (header_fault header) config small h

read_typed : (image : Image) (f : Facts) (at : ℕ) (config : CellConfig) → ((q : Place) → f.byte q < 256) → config_read (read_at image f at) ≡ Some config → IsTyped config
unfolding read_at
read_typed image f at config small h = from_typed image f at (bytes_at image f at 132) config small h

coming_typed : (image : Image) (f : Facts) (call : Call) (config : CellConfig) → ((q : Place) → f.byte q < 256) → coming_by image f call ≡ Some config → IsTyped config
coming_typed image f (Create at) config small h = read_typed image f at config small h
coming_typed image f _ config small h = absurd (none-some config h)

coming_of_typed : (image : Image) (f : Facts) (call : Option OpenCall) (config : CellConfig) → ((q : Place) → f.byte q < 256) → option_and_then (λ (o : OpenCall). coming_by image f o.call) call ≡ Some config → IsTyped config
coming_of_typed image f None config small h = absurd (none-some config h)
coming_of_typed image f (Some o) config small h = coming_typed image f o.call config small h

decided_typed : (call : Call) (coming : Option CellConfig) (refused : Option ℤ) → ((config : CellConfig) → coming ≡ Some config → IsTyped config) → IfSome refused (FitsSigned w64) → IsTypedPhase (after_decide call coming refused)
decided_typed call coming (Some number) h fits = fits
decided_typed (Create at) (Some config) None h fits = h config refl
decided_typed (Create at) None None h fits = tt
decided_typed _ coming None h fits = tt

settled_typed : (how : Settled) → IsTypedPhase (after_settle how)
settled_typed Agreed = tt
settled_typed Denied = record { sfits = omega arith }
settled_typed Timeout = tt

zero_fits : FitsSigned w64 (pos 0)
zero_fits = record { sfits = omega arith }

id_fits : (id : ℕ) → id < 2 ^ 32 → FitsSigned w64 (pos id)
id_fits id small = record { sfits = omega (arith, small) }

telling_typed : (about : ℕ) (answer : ℤ) (o : Option ℕ) → FitsSigned w64 answer → IsTypedPhase (telling about answer o)
telling_typed about answer None fits = fits
telling_typed about answer (Some id) fits = fits

created_typed : (at : ℕ) (phase : Phase) (cells : List Live) → IsTypedPhase phase → IsTypedPhase (after_commit (Create at) phase cells)
created_typed at (ToCreate config) cells h = telling_typed config.id (pos config.id) (first_recipient config.id cells) (id_fits config.id h.id)
created_typed at _ cells h = zero_fits

commit_typed : (call : Call) (phase : Phase) (cells : List Live) → IsTypedPhase phase → IsTypedPhase (after_commit call phase cells)
commit_typed (Create at) phase cells h = created_typed at phase cells h
commit_typed (Destroy id) phase cells h = telling_typed id (pos 0) (first_recipient id cells) zero_fits
commit_typed _ phase cells h = zero_fits

note_typed : (phase : Phase) → IsTypedPhase phase → IsTypedPhase (after_note phase)
note_typed ToDecide h = h
note_typed (ToSettle waited) h = h
note_typed (ToCreate config) h = h
note_typed ToCommit h = h
note_typed (ToNote id about answer) h = h
note_typed (ToNoted id about answer waited) h = h
note_typed (ToFinish answer) h = h

noted_typed : (phase : Phase) (cells : List Live) → IsTypedPhase phase → IsTypedPhase (after_noted phase cells)
noted_typed (ToNoted id about answer waited) cells h = telling_typed about answer (first_recipient about (listed_behind id cells)) h
noted_typed _ cells h = h

counted_typed : (cell : ℕ) (call : Call) (phase : Phase) → IsTypedPhase phase → IsTypedPhase (counted cell call phase)
counted_typed cell call (ToSettle waited) h = cond_both (is_named call cell) (ToSettle (counted_up waited)) (ToSettle waited) IsTypedPhase (λ _. tt) (λ _. tt)
counted_typed cell call (ToNoted id about answer waited) h = cond_both (eqb cell id) (ToNoted id about answer (counted_up waited)) (ToNoted id about answer waited) IsTypedPhase (λ _. h) (λ _. h)
counted_typed cell call _ h = h

phase_typed : (cells : List Live) (coming : Option CellConfig) (cell : ℕ) (call : Call) (phase : Phase) (act : Act) → ((config : CellConfig) → coming ≡ Some config → IsTyped config) → FitsRefusal act → IsTypedPhase phase → IsTypedPhase (phase_after cells coming cell call phase act)
phase_typed cells coming cell call phase (Decide refused) some fits h = decided_typed call coming refused some fits
phase_typed cells coming cell call phase (Settle how) some fits h = settled_typed how
phase_typed cells coming cell call phase Commit some fits h = commit_typed call phase cells h
phase_typed cells coming cell call phase (Note id) some fits h = note_typed phase h
phase_typed cells coming cell call phase (Noted id how) some fits h = noted_typed phase cells h
phase_typed cells coming cell call phase _ some fits h = counted_typed cell call phase h

map_typed : (call : Option OpenCall) (g : OpenCall → Phase) → ((o : OpenCall) → call ≡ Some o → IsTypedPhase (g o)) → IsTypedCall (option_map (λ (o : OpenCall). record { caller = o.caller; call = o.call; phase = g o }) call)
map_typed None g h = tt
map_typed (Some o) g h = h o refl

pub typed_phase : (call : Option OpenCall) (o : OpenCall) → call ≡ Some o → IsTypedCall call → IsTypedPhase o.phase
typed_phase call o is h = let P : Option OpenCall → Type 0 = IsTypedCall in subst P is h

call_typed : (cells : List Live) (coming : Option CellConfig) (call : Option OpenCall) (entry : Entry) (act : Act) → ((config : CellConfig) → coming ≡ Some config → IsTyped config) → FitsRefusal act → IsTypedCall call → IsTypedCall (call_by cells coming call entry act)
call_typed cells coming call entry (Begin code a b) some fits h = tt
call_typed cells coming call entry (Finish answer) some fits h = tt
call_typed cells coming call entry act some fits h = map_typed call (λ o. phase_after cells coming entry.cell o.call o.phase act) (λ o is. phase_typed cells coming entry.cell o.call o.phase act some fits (typed_phase call o is h))

-- ---- the cells

same_typed : (one other : List CellConfig) → one ≡ other → AreTyped other → AreTyped one
same_typed one other is h = let P : List CellConfig → Type 0 = AreTyped in subst P (sym is) h

joined_typed : (configs : List CellConfig) (new : CellConfig) → AreTyped configs → IsTyped new → AreTyped (configs ++ new ∷ [])
joined_typed configs new h typed config held =
    let P : CellConfig → Type 0 = IsTyped in
    ⊎_elim (λ old. h config old) (λ (is : new ≡ config). subst P is typed) (Contains-push_cases configs new config held)

added_typed : (at : ℕ) (phase : Phase) (cells : List Live) → IsTypedPhase phase → AreTyped (configs_of cells) → AreTyped (configs_of (committed_cells (Create at) phase cells))
added_typed at (ToCreate config) cells typed h = same_typed (configs_of (cells ++ (record { config = config; loadable = false }) ∷ [])) (configs_of cells ++ config ∷ []) (configs_joined cells config) (joined_typed (configs_of cells) config h typed)
added_typed at _ cells typed h = h

committed_typed : (call : Call) (phase : Phase) (cells : List Live) → IsTypedPhase phase → AreTyped (configs_of cells) → AreTyped (configs_of (committed_cells call phase cells))
committed_typed (Create at) phase cells typed h = added_typed at phase cells typed h
committed_typed (Start id) phase cells typed h = same_typed (configs_of (map (marked id false) cells)) (configs_of cells) (configs_marked id false cells) h
committed_typed (Loadable id) phase cells typed h = same_typed (configs_of (map (marked id true) cells)) (configs_of cells) (configs_marked id true cells) h
committed_typed (Destroy id) phase cells typed h =
    same_typed (configs_of (filter (is_other id) cells)) (filter (is_other_config id) (configs_of cells)) (configs_others id cells)
    (λ config held. h config (IsFound_from_filter (is_other_config id) (configs_of cells) config held).among)
committed_typed _ phase cells typed h = h

commits_typed : (call : Option OpenCall) (cells : List Live) → IsTypedCall call → AreTyped (configs_of cells) → AreTyped (configs_of (cells_by call cells Commit))
commits_typed None cells typed h = h
commits_typed (Some o) cells typed h = committed_typed o.call o.phase cells typed h

cells_typed : (call : Option OpenCall) (cells : List Live) (act : Act) → IsTypedCall call → AreTyped (configs_of cells) → AreTyped (configs_of (cells_by call cells act))
cells_typed call cells Commit typed h = commits_typed call cells typed h
cells_typed call cells _ typed h = h

-- ---- bytes

written_small : (image : Image) (f : Facts) (cell : ℕ) (act : Act) (q : Place) → ((p : Place) → f.byte p < 256) → byte_written image f cell act q < 256
written_small image f cell (Write width at value true) q small = write_small f.byte (devices_of image f cell) (reach image f cell ToWrite at width) value q small
written_small image f cell _ q small = small q

failing_small : (image : Image) (f : Facts) (entry : Entry) (good : Bool) → MayWriteBytes (unless_good good (failing image f entry))
failing_small image f entry true = tt
failing_small image f entry false =
    let left : Bool = eqb entry.cell image.system.root.id || any_below (λ i. is_on_board image i && is_unfailed_of entry.cell (cpu_after image f entry i)) 16 in
    cond_both left None (Some (record { cell = entry.cell; change = NewState STATE_FAILED })) MayWriteBytes (λ _. tt) (λ _. tt)

asking_one : (o : Option CellConfig) → MayWriteBytes (option_and_then (λ (c : CellConfig). cond (is_passive c) None (Some (on_page (Message MESSAGE_SHUTDOWN_REQUEST) c))) o)
asking_one None = tt
asking_one (Some c) = cond_both (is_passive c) None (Some (on_page (Message MESSAGE_SHUTDOWN_REQUEST) c)) MayWriteBytes (λ _. tt) (λ _. tt)

asking_small : (cells : List Live) (call : Option OpenCall) → MayWriteBytes (option_and_then (λ (o : OpenCall). asking cells o.call) call)
asking_small cells None = tt
asking_small cells (Some o) = asking_one (named_cell cells o.call)

timeout_one : (o : Option CellConfig) → MayWriteBytes (option_map (on_page (NewState STATE_FAILED)) o)
timeout_one None = tt
timeout_one (Some c) = tt

timeout_small : (cells : List Live) (call : Option OpenCall) → MayWriteBytes (option_and_then (λ (o : OpenCall). option_map (on_page (NewState STATE_FAILED)) (named_cell cells o.call)) call)
timeout_small cells None = tt
timeout_small cells (Some o) = timeout_one (named_cell cells o.call)

fresh_one : (window : ℕ) (cells : List Live) (id : ℕ) (o : Option Live) → find (has_id id) cells ≡ o → AreTyped (configs_of cells)
    → MayWriteBytes (option_map (λ (c : CellConfig). on_page (Fresh STATE_RUNNING c.console window) c) (option_map (λ (l : Live). l.config) o))
fresh_one window cells id None is h = tt
fresh_one window cells id (Some live) is h = (h live.config (found_live cells id live is).0).console

down_one : (o : Option CellConfig) → MayWriteBytes (option_map (on_page (NewState STATE_SHUT_DOWN)) o)
down_one None = tt
down_one (Some c) = tt

create_page : (window : ℕ) (cells : List Live) (at : ℕ) (phase : Phase) → IsTypedPhase phase → MayWriteBytes (committing window cells (Create at) phase)
create_page window cells at (ToCreate config) typed = typed.console
create_page window cells at _ typed = tt

commit_page : (window : ℕ) (cells : List Live) (call : Call) (phase : Phase) → IsTypedPhase phase → AreTyped (configs_of cells) → MayWriteBytes (committing window cells call phase)
commit_page window cells (Create at) phase typed h = create_page window cells at phase typed
commit_page window cells (Start id) phase typed h = fresh_one window cells id (find (has_id id) cells) refl h
commit_page window cells (Loadable id) phase typed h = down_one (live_in cells id)
commit_page window cells _ phase typed h = tt

commit_small : (window : ℕ) (cells : List Live) (call : Option OpenCall) → IsTypedCall call → AreTyped (configs_of cells) → MayWriteBytes (option_and_then (λ (o : OpenCall). committing window cells o.call o.phase) call)
commit_small window cells None typed h = tt
commit_small window cells (Some o) typed h = commit_page window cells o.call o.phase typed h

page_write_small : (image : Image) (f : Facts) (entry : Entry) (act : Act) → IsTypedCall f.call → AreTyped (configs_of f.cells) → MayWriteBytes (page_write_by image f entry act)
page_write_small image f entry (Read width at got) typed h = failing_small image f entry (is_some got)
page_write_small image f entry (Write width at value ok) typed h = failing_small image f entry ok
page_write_small image f entry (Fetch at got) typed h = failing_small image f entry (is_some got)
page_write_small image f entry (Await width at value ok) typed h = failing_small image f entry ok
page_write_small image f entry (Decide None) typed h = asking_small f.cells f.call
page_write_small image f entry (Settle Timeout) typed h = timeout_small f.cells f.call
page_write_small image f entry Commit typed h = commit_small image.system.platform.pci_mmconfig_base f.cells f.call typed h
page_write_small image f entry (Noted id Unheard) typed h = tt
page_write_small image f entry _ typed h = tt

byte_small : (image : Image) (f : Facts) (entry : Entry) (q : Place) → IsTypedBoard f → byte_after image f entry q < 256
byte_small image f entry q typed =
    let own : Place → ℕ = byte_written image f entry.cell entry.act in
    page_write_small_holds (page_write_by image f entry entry.act) (with_words (specs_changing f entry.act) own) q
    (page_write_small image f entry entry.act typed.call typed.cells)
    (λ p. words_small (specs_changing f entry.act) own p (λ k. written_small image f entry.cell entry.act k typed.bytes))

-- ---- root's CPU

one_owner : (change : Act) (own i : ℕ) (cpu : Cpu) → (cond (eqb i own) (changed (change_of change) cpu) cpu).owner ≡ cpu.owner
one_owner change own i cpu =
    let same : Cpu → Type 0 = λ c. c.owner ≡ cpu.owner in
    cond_both (eqb i own) (changed (change_of change) cpu) cpu same (λ _. changed_owner (change_of change) cpu) (λ _. refl)

settle_owner : (call : Option OpenCall) (how : Settled) (cpu : Cpu) → (option_map_or (λ (o : OpenCall). cpu_by_settle (is_undenied how) o.call cpu) call cpu).owner ≡ cpu.owner
settle_owner None how cpu = refl
settle_owner (Some o) how cpu = settled_owner (is_undenied how) o.call cpu

acted_owner : (image : Image) (runs : Bool) (call : Option OpenCall) (act : Act) (own i : ℕ) (cpu : Cpu) → is_commit act ≡ false → (acted image runs call act own i cpu).owner ≡ cpu.owner
acted_owner image runs call (Begin code a b) own i cpu other = begun_owner image own i cpu
acted_owner image runs call (Hvc code a b answer) own i cpu other = called_owner (decoded code a b) answer own i cpu
acted_owner image runs call (Settle how) own i cpu other = settle_owner call how cpu
acted_owner image runs call Commit own i cpu other = absurd (both_ways true other refl)
acted_owner image runs call (Finish answer) own i cpu other = finished_owner image own i cpu
acted_owner image runs call act own i cpu other = one_owner act own i cpu

cpus_after : (image : Image) (f : Facts) (entry : Entry) (i : ℕ) → (after image f entry).cpu i ≡ acted image (runs_by_start f i) f.call entry.act entry.cpu i (f.cpu i)
unfolding after
cpus_after image f entry i = refl

-- behind a Commit the call is still open, and its caller is root's
root_commit : (image : Image) (f : Facts) (entry : Entry) (call : Option OpenCall) → f.call ≡ call → entry.act ≡ Commit → IsSound image (after image f entry) → HasCpu image f.cpu → HasCpu image (after image f entry).cpu
root_commit image f entry None is act sound has =
    let same : (after image f entry).cpu has.0 ≡ f.cpu has.0 =
    cpus_after image f entry has.0
    ∙ ap (λ (c : Option OpenCall). acted image (runs_by_start f has.0) c entry.act entry.cpu has.0 (f.cpu has.0)) is
    ∙ ap (λ (x : Act). acted image (runs_by_start f has.0) None x entry.cpu has.0 (f.cpu has.0)) act in
    (has.0, has.1, ap (λ (c : Cpu). c.owner) same ∙ has.2)
root_commit image f entry (Some o) is act sound has =
    let next : OpenCall = record { caller = o.caller; call = o.call; phase = after_commit o.call o.phase f.cells } in
    let opens : (after image f entry).call ≡ Some next =
    after_call image f entry
    ∙ ap (λ (c : Option OpenCall). call_by f.cells (coming_of image f) c entry entry.act) is
    ∙ ap (call_by f.cells (coming_of image f) (Some o) entry) act in
    let caller = (call_open image (after image f entry) next sound opens).caller in
    (o.caller, caller.board, caller.owner)

root_kept : (image : Image) (f : Facts) (entry : Entry) → is_commit entry.act ≡ false → HasCpu image f.cpu → HasCpu image (after image f entry).cpu
root_kept image f entry other has = (has.0, has.1, ap (λ (c : Cpu). c.owner) (cpus_after image f entry has.0) ∙ acted_owner image (runs_by_start f has.0) f.call entry.act entry.cpu has.0 (f.cpu has.0) other ∙ has.2)

root_by : (image : Image) (f : Facts) (entry : Entry) (act : Act) → entry.act ≡ act → IsSound image (after image f entry) → HasCpu image f.cpu → HasCpu image (after image f entry).cpu
root_by image f entry Commit is sound has = root_commit image f entry f.call refl is sound has
root_by image f entry _ is sound has = root_kept image f entry (ap is_commit is) has

-- ---- entry by entry

pub typed_after : (image : Image) (f : Facts) (entry : Entry) → IsSound image f → due_at image f entry.cpu ≡ Some entry → IsTypedBoard f → IsTypedBoard (after image f entry)
unfolding after
typed_after image f entry sound due typed = record {
  bytes = λ q. byte_small image f entry q typed;
  cells = cells_typed f.call f.cells entry.act typed.call typed.cells;
  call = call_typed f.cells (coming_of image f) f.call entry entry.act (λ config is. coming_of_typed image f f.call config typed.bytes is) (refusal_fits image f entry sound due) typed.call;
  endpoints = registers_after image f entry typed.endpoints;
}

pub typed_start : (image : Image) (form : Form) → ArePreloadsBytes image → IsTypedBoard (start image form)
typed_start image form bytes = record {
  bytes = λ q. opening_small image q bytes;
  cells = λ config held. let below : held.0 < 0 = held.1 in absurd (omega arith);
  call = tt;
  endpoints = registers_open image;
}

typed_from : (image : Image) (f : Facts) (entries : List Entry) → IsSound image f → IsTypedBoard f → IsLegalFrom image f entries → IsTypedBoard (fold (after image) f entries)
typed_from image f [] sound typed legal = typed
typed_from image f (entry ∷ entries) sound typed legal = typed_from image (after image f entry) entries (sound_after image f entry sound legal.0) (typed_after image f entry sound legal.0 typed) legal.1

pub legal_typed : (image : Image) (form : Form) (entries : List Entry) → IsAdmitted image → ArePreloadsBytes image → IsLegal image form entries → IsTypedBoard (facts image form entries)
unfolding IsLegal facts
legal_typed image form entries admitted bytes legal = typed_from image (start image form) entries (sound_start image form admitted) (typed_start image form bytes) legal

root_start : (image : Image) (form : Form) → IsAdmitted image → IsMadeOfBytes image → HasCpu image (start image form).cpu
root_start image form admitted bytes =
    let sound = sound_start image form admitted in
    let set = sound_set image.system.root.cpu_set (λ i. index_small image.system.root.cpu_set i bytes.set) (sound.cells.clean.cpus 0 image.system.root refl) in
    (set.some.0, set.some.1, refl)

root_from : (image : Image) (f : Facts) (entries : List Entry) → IsSound image f → HasCpu image f.cpu → IsLegalFrom image f entries → HasCpu image (fold (after image) f entries).cpu
root_from image f [] sound has legal = has
root_from image f (entry ∷ entries) sound has legal =
    let next = sound_after image f entry sound legal.0 in
    root_from image (after image f entry) entries next (root_by image f entry entry.act refl next has) legal.1

legal_root : (image : Image) (form : Form) (entries : List Entry) → IsAdmitted image → IsMadeOfBytes image → IsLegal image form entries → HasCpu image (facts image form entries).cpu
unfolding IsLegal facts
legal_root image form entries admitted bytes legal = root_from image (start image form) entries (sound_start image form admitted) (root_start image form admitted bytes) legal

-- ---- counting

-- a cell that lives besides root has a CPU
cell_cpu : (image : Image) (f : Facts) (config : CellConfig) → IsSound image f → IsTypedBoard f → Contains (configs_of f.cells) config → (cpu : ℕ) × ((f.cpu cpu).owner ≡ config.id) × (cpu < 16)
cell_cpu image f config sound typed held =
    let numbered = slice_get-get_or (configs_of f.cells) held.0 config held.1 ∙ ap Some held.2 in
    let set = sound_set config.cpu_set (λ i. index_small config.cpu_set i (typed.cells config held).set) (sound.cells.clean.cpus (suc held.0) config numbered) in
    (set.some.0, (sound.cpus.cells config held).owned set.some.0 set.some.1, set.few set.some.0 set.some.1)

-- and so has root
each_cpu : (image : Image) (f : Facts) (config : CellConfig) → IsSound image f → IsTypedBoard f → HasCpu image f.cpu → Contains (image.system.root ∷ configs_of f.cells) config → (cpu : ℕ) × ((f.cpu cpu).owner ≡ config.id) × (cpu < 16)
each_cpu image f config sound typed root held =
    let configs : List CellConfig = configs_of f.cells in
    let P : CellConfig → Type 0 = λ c. (cpu : ℕ) × ((f.cpu cpu).owner ≡ c.id) × (cpu < 16) in
    ⊎_elim
    (λ (is : image.system.root ≡ config). subst P is (root.0, root.2, board_few image configs sound.cells.clean root.0 root.1))
    (λ (there : Contains configs config). cell_cpu image f config sound typed there)
    (Contains_cases image.system.root configs config held)

-- two of these have different ids
each_apart : (all : List CellConfig) (x : CellConfig) → AllPairs AreTwo all
    → (i j d : ℕ) → i < j → j < length (map (λ (c : CellConfig). c.id) all) → get_or (map (λ (c : CellConfig). c.id) all) i d ≢ get_or (map (λ (c : CellConfig). c.id) all) j d
each_apart all x differ i j d lt within same =
    let long : length (map (λ (c : CellConfig). c.id) all) ≡ length all = length_map (λ (c : CellConfig). c.id) all in
    let below : j < length all = omega (arith, long) in
    let two : AreTwo (get_or all i x) (get_or all j x) = differ i j x lt below in
    let at : (k : ℕ) → k < length all → get_or (map (λ (c : CellConfig). c.id) all) k d ≡ (get_or all k x).id =
    λ k l. get_or_from_slice_get (map (λ (c : CellConfig). c.id) all) k (get_or (map (λ (c : CellConfig). c.id) all) k x.id) d (slice_get-get_or (map (λ (c : CellConfig). c.id) all) k x.id (omega (arith, l, long)))
    ∙ get_map (λ (c : CellConfig). c.id) all k x in
    two_ids (get_or all i x) (get_or all j x) two (sym (at i (omega arith)) ∙ same ∙ at j below)

-- where what is read keeps to its types, cells that each have one of 16 CPUs are few
pub few_typed : (image : Image) (f : Facts) → IsSound image f → IsTypedBoard f → length (configs_of f.cells) ≤ 16
few_typed image f sound typed =
    let configs : List CellConfig = configs_of f.cells in
    let apart : AllPairs AreTwo configs = λ i j d lt within. sound.cells.differ (suc i) (suc j) d (omega (arith, lt)) (omega (arith, within)) in
    picked_few (λ i. (f.cpu i).owner) configs (picked (λ i. (f.cpu i).owner) configs (λ config held. cell_cpu image f config sound typed held)) (each_apart configs image.system.root apart)

pub few_cells : (image : Image) (form : Form) (entries : List Entry) → IsAdmitted image → IsMadeOfBytes image → IsLegal image form entries → length (configs_of (facts image form entries).cells) ≤ 15
few_cells image form entries admitted bytes legal =
    let f : Facts = facts image form entries in
    let sound = legal_sound image form entries admitted legal in
    let typed = legal_typed image form entries admitted bytes.preloads legal in
    let root = legal_root image form entries admitted bytes legal in
    let all : List CellConfig = image.system.root ∷ configs_of f.cells in
    let at_most : length all ≤ 16 = picked_few (λ i. (f.cpu i).owner) all (picked (λ i. (f.cpu i).owner) all (λ config held. each_cpu image f config sound typed root held)) (each_apart all image.system.root sound.cells.differ) in
    omega (arith, at_most)
