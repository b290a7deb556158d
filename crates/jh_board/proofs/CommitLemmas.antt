-- The words of devices are held, and what is held has all that a Commit needs for the devices of its cell.
use Rattle.std.proofs.Common.{◌≡◌, ◌⊎◌, ℕ, ◌+◌, ◌*◌, ◌^◌, ◌<◌, List, ◌∷◌, Option, Some, None, refl, sym, ◌∙◌, ap, subst, inl, inr, ⊎_elim, arith}
use Rattle.std.specs.Prelude.{All, Contains, IfSome, option_map, find}
use Rattle.std.proofs.lemmas.Option.{none-some, same_Some}
use Rattle.std.proofs.lemmas.List.Elements.{All-contains, All-map}
use Rattle.jh_num.proofs.Public.{Contains_cases}
use Rattle.jh_cellcfg.specs.declared.config.CellConfig.{CellConfig}
use Rattle.jh_cellcfg.specs.declared.live.Live.{Live}
use Rattle.jh_cellcfg.specs.Lives.{has_id}
use Rattle.jh_ivshmem.specs.declared.endpoint.Endpoint.{Endpoint}
use Rattle.jh_ivshmem.specs.declared.spec.EndpointSpec.{EndpointSpec}
use Rattle.jh_ivshmem.specs.declared.spec.EndpointWord.{EndpointWord}
use Rattle.jh_ivshmem.specs.Specs.{IsInItsLimits, endpoint_word_of}
use Rattle.jh_call.specs.declared.call.Call.{Call}
use Rattle.jh_call.specs.declared.call.Call.TheVariants.{Create, Start, Destroy}
use Rattle.jh_script.specs.declared.image.Image.{Image}
use Rattle.jh_history.specs.declared.access.Reach.{Reach}
use Rattle.jh_history.specs.declared.call.OpenCall.{OpenCall}
use Rattle.jh_history.specs.declared.device_change.DeviceChange.TheVariants.{Join, Reset, Leave}
use Rattle.jh_history.specs.declared.entry.Act.{Act}
use Rattle.jh_history.specs.declared.entry.Act.TheVariants.{Commit}
use Rattle.jh_history.specs.declared.place.Place.TheVariants.{Physical}
use Rattle.jh_history.specs.Access.{endpoint_word_of_reach}
use Rattle.jh_history.specs.Devices.{Devices, devices_in, specs_of}
use Rattle.jh_history.specs.DueFacts.{IsWordOf}
use Rattle.jh_history.specs.Endpoints.{device_change, changing, changing_by, change_by, MayChange}
use Rattle.jh_history.specs.Facts.{Facts}
use Rattle.jh_history.specs.Grants.{devices_of}
use Rattle.jh_history.specs.Lives.{live_in}
use Rattle.jh_shape.specs.Lives.{configs_of}
use Rattle.jh_history.specs.Places.{places_in_row}
use Rattle.jh_history.specs.Sound.{IsSound, IsOfDevice}
use Rattle.jh_board.specs.declared.held.Held.{Held}
use Rattle.jh_board.specs.Means.{Means, HoldsWordsOf}
use Rattle.jh_edit.specs.declared.stage.Stage2.{Stage2}
use Rattle.jh_board.specs.Pages.{HoldsPlace, HoldsEndpointWord, HoldsWordOf}
use Rattle.jh_board.specs.Private.Steps.{devices_held, endpoint_word_after, MayPut, MayWriteEndpointWord, MayCommitDevices, MayCommit}
use Rattle.jh_board.proofs.ActedLemmas.{word_acted}
use Rattle.jh_board.proofs.AnswerLemmas.{if_some}
use Rattle.jh_board.proofs.BytesLemmas.{row_kept}
use Rattle.jh_board.proofs.ComingLemmas.{IsComing, created_phase, ready_coming}
use Rattle.jh_board.proofs.KeptLemmas.{KeepsPages, words_kept}
use Rattle.jh_board.proofs.ListLemmas.{All_from_find}

-- ---- words that are held

-- those of the devices of each cell
words_of_cell : (image : Image) (held : Held) (f : Facts) (config : CellConfig) → Means image held f → Contains (image.system.root ∷ configs_of f.cells) config → HoldsWordsOf held config
words_of_cell image held f config means h =
    let P : CellConfig → Type 0 = HoldsWordsOf held in
    ⊎_elim
    (λ (own : image.system.root ≡ config). subst P own means.root_words)
    (λ (other : Contains (configs_of f.cells) config). All-contains P (configs_of f.cells) config (All-map P (λ (live : Live). live.config) f.cells means.words) other)
    (Contains_cases image.system.root (configs_of f.cells) config h)

-- that of each endpoint
word_held : (image : Image) (held : Held) (f : Facts) (e : Endpoint) → Means image held f → IsSound image f → Contains f.endpoints e → HoldsWordOf held.memory e.spec
word_held image held f e means sound there =
    let own : IsOfDevice image (configs_of f.cells) e.spec = All-contains (λ (o : Endpoint). IsOfDevice image (configs_of f.cells) o.spec) f.endpoints e sound.endpoints.own there in
    All-contains (HoldsWordOf held.memory) (specs_of own.0) e.spec (words_of_cell image held f own.0 means own.1) own.2

endpoint_word_held : (memory : Stage2) (word : EndpointWord) (spec : EndpointSpec) → IsInItsLimits spec → word ≡ endpoint_word_of spec word.value → HoldsWordOf memory spec → (word.place + 4 < 2 ^ 64) × HoldsEndpointWord memory word
endpoint_word_held memory word spec within is there =
    let place : word.place ≡ spec.table + 4 * spec.id = ap (λ (s : EndpointWord). s.place) is in
    let own = within.id in
    let few = within.peers in
    let table = within.table in
    let P : ℕ → Type 0 = λ p. All (HoldsPlace memory) (places_in_row (Physical p) 4) in
    (omega arith, subst P (sym place) there)

may_put : (image : Image) (held : Held) (memory : Stage2) (f : Facts) (word : Option EndpointWord) → Means image held f → IsSound image f → KeepsPages held.memory memory → IfSome word (IsWordOf f.endpoints) → MayPut memory word
may_put image held memory f None means sound pages h = tt
may_put image held memory f (Some word) means sound pages h =
    let there : HoldsWordOf held.memory h.endpoint.spec = word_held image held f h.endpoint means sound h.there in
    endpoint_word_held memory word h.endpoint.spec h.within h.is
    (row_kept held.memory memory (endpoint_word_of h.endpoint.spec 0).place 4 pages there)

-- the devices of a cell by what is held are those by the facts
pub same_devices : (image : Image) (held : Held) (f : Facts) (id : ℕ) → held.cells.lives ≡ f.cells → held.endpoints.list ≡ f.endpoints → devices_held image held id ≡ devices_of image f id
same_devices image held f id cells endpoints =
    ap (λ (cs : List Live). devices_in image cs held.endpoints.list id) cells ∙ ap (λ (es : List Endpoint). devices_in image f.cells es id) endpoints

-- the word that the act writes may be written
pub may_write_endpoint_word : (image : Image) (held mid : Held) (f : Facts) (id : ℕ) (act : Act) (found : Reach) → Means image held f → IsSound image f → mid.cells ≡ held.cells → mid.endpoints ≡ held.endpoints → KeepsPages held.memory mid.memory
    → ((value : ℕ) → IfSome (endpoint_word_of_reach (devices_of image f id) found value) (IsWordOf f.endpoints)) → MayWriteEndpointWord image mid id act found
may_write_endpoint_word image held mid f id act found means sound cells endpoints pages word =
    let P : Devices → Type 0 = λ devices. MayPut mid.memory (endpoint_word_after devices act found) in
    let same : devices_held image mid id ≡ devices_of image f id = same_devices image mid f id (rw cells means.cells) (rw endpoints means.endpoints) in
    subst P (sym same) (may_put image held mid.memory f (endpoint_word_after (devices_of image f id) act found) means sound pages (word_acted (IsWordOf f.endpoints) (devices_of image f id) act found word))

-- ---- the devices that a Commit changes

-- an act that changes devices so is a Commit
commits : (cells : List Live) (call : Option OpenCall) (act : Act) (config : CellConfig) → changing_by cells call act ≡ Some config → act ≡ Commit
commits cells (Some o) Commit config h = refl
commits cells call act config h = absurd (none-some config h)

-- the cell lives, and its devices don't join
record IsOfLive (cells : List Live) (call : Option OpenCall) (config : CellConfig) : Type 0 where
  pub id : ℕ
  pub lives : live_in cells id ≡ Some config
  pub stays : change_by call ≡ Join → ⊥

reset_joins : Reset ≡ Join → ⊥
reset_joins h = cc

leave_joins : Leave ≡ Join → ⊥
leave_joins h = cc

-- what is known of the cell whose devices the call changes
changed_cell : (cells : List Live) (o : OpenCall) (call : Call) (config : CellConfig) → o.call ≡ call → changing cells call o.phase ≡ Some config → IsComing (Some o) config ⊎ IsOfLive cells (Some o) config
changed_cell cells o (Create at) config is h = inl (record { begun = o; is = refl; phase = created_phase (Create at) o.phase config h })
changed_cell cells o (Start id) config is h = inr (record { id = id; lives = h; stays = λ joins. reset_joins (ap device_change (sym is) ∙ joins) })
changed_cell cells o (Destroy id) config is h = inr (record { id = id; lives = h; stays = λ joins. leave_joins (ap device_change (sym is) ∙ joins) })
changed_cell cells o call config is h = absurd (none-some config h)

changed_by : (cells : List Live) (call : Option OpenCall) (config : CellConfig) → changing_by cells call Commit ≡ Some config → IsComing call config ⊎ IsOfLive cells call config
changed_by cells None config h = absurd (none-some config h)
changed_by cells (Some o) config h = changed_cell cells o o.call config refl h

config_has : (Q : CellConfig → Type 0) (o : Option Live) (config : CellConfig) → option_map (λ (live : Live). live.config) o ≡ Some config → ((live : Live) → o ≡ Some live → Q live.config) → Q config
config_has Q None config is h = absurd (none-some config is)
config_has Q (Some live) config is h = subst Q (same_Some live.config config is) (h live refl)

live_words : (held : Held) (cells : List Live) (id : ℕ) (config : CellConfig) → All (λ (live : Live). HoldsWordsOf held live.config) cells → live_in cells id ≡ Some config → HoldsWordsOf held config
live_words held cells id config all lives =
    let Q : CellConfig → Type 0 = HoldsWordsOf held in
    config_has Q (find (has_id id) cells) config lives (λ live found. All_from_find (has_id id) (λ (l : Live). Q l.config) cells live found all)

-- what is held before devices change, and after memory has and other devices may have
pub record IsReadyToCommit (old mid : Held) (act : Act) : Type 0 where
  pub cells : mid.cells ≡ old.cells
  pub call : mid.call ≡ old.call
  pub list : act ≡ Commit → mid.endpoints.list ≡ old.endpoints.list
  pub spare : mid.endpoints.spare ≡ old.endpoints.spare
  pub pages : KeepsPages old.memory mid.memory

coming_devices : (image : Image) (old mid : Held) (f : Facts) (act : Act) (config : CellConfig) → Means image old f → IsReadyToCommit old mid act → MayChange (change_by mid.call) mid.endpoints.list config → IsComing f.call config → MayCommitDevices mid config
coming_devices image old mid f act config means kept may coming =
    let ready = ready_coming old f.call coming.begun config means.ready coming.is coming.phase in
    let room = ready.endpoints in
    let spare = kept.spare in record {
      may = may;
      room = λ joins. omega arith;
      words = words_kept old.memory mid.memory (specs_of config) kept.pages ready.words;
    }

living_devices : (image : Image) (old mid : Held) (f : Facts) (act : Act) (config : CellConfig) → Means image old f → IsReadyToCommit old mid act → MayChange (change_by mid.call) mid.endpoints.list config → IsOfLive f.cells f.call config → MayCommitDevices mid config
living_devices image old mid f act config means kept may live = record {
  may = may;
  room = λ joins. absurd (live.stays (ap change_by (sym (kept.call ∙ means.call)) ∙ joins));
  words = words_kept old.memory mid.memory (specs_of config) kept.pages (live_words old f.cells live.id config means.words live.lives);
}

-- what is held has all that the Commit needs
pub may_commit : (image : Image) (old mid : Held) (f : Facts) (act : Act) → Means image old f → IsReadyToCommit old mid act → IfSome (changing_by f.cells f.call act) (MayChange (change_by f.call) f.endpoints) → MayCommit mid act
may_commit image old mid f act means kept law =
    if_some (changing_by mid.cells.lives mid.call act) (MayCommitDevices mid) (λ config is.
    let cells : mid.cells.lives ≡ f.cells = rw kept.cells means.cells in
    let call : mid.call ≡ f.call = kept.call ∙ means.call in
    let known : changing_by f.cells f.call act ≡ Some config =
    ap (λ (cs : List Live). changing_by cs f.call act) (sym cells) ∙ ap (λ (k : Option OpenCall). changing_by mid.cells.lives k act) (sym call) ∙ is in
    let commit : act ≡ Commit = commits f.cells f.call act config known in
    let list : mid.endpoints.list ≡ f.endpoints = kept.list commit ∙ means.endpoints in
    let P : Option CellConfig → Type 0 = λ o. IfSome o (MayChange (change_by f.call) f.endpoints) in
    let may : MayChange (change_by mid.call) mid.endpoints.list config = rw (call, list) (subst P known law) in
    ⊎_elim (coming_devices image old mid f act config means kept may) (living_devices image old mid f act config means kept may)
    (changed_by f.cells f.call config (ap (changing_by f.cells f.call) (sym commit) ∙ known)))
