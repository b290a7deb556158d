-- Who changes a byte: of physical memory that a cell holds for itself, and of a communication page.
use Rattle.std.proofs.Common.{◌≡◌, ◌≢◌, ℕ, suc, ◌+◌, ◌-◌, ◌*◌, ◌/◌, ◌%◌, ◌^◌, ◌<◌, ◌≤◌, List, [], ◌∷◌, ◌++◌, Bool, true, false, cond, not, eqb, get_or, Option, Some, None, refl, sym, ap, subst, ◌∙◌, inl, inr, ◌⊎◌, ⊎_elim, arith}
use Rattle.std.specs.Prelude.{Contains, find, option_map, slice_get, nat_lt, nat_le}
use Rattle.std.specs.List.{list_any}
use Rattle.std.proofs.lemmas.Bool.{both_ways, or_parts, and_parts, and_from, and_left, and_right, eqb-true, eq-eqb, cases_lt, cases_Bool, not-true, false_from_ne_true, le-leb, lt-ltb, true≢false, false≢true}
use Rattle.std.proofs.lemmas.Option.{same_Some, slice_get-get_or, get_or_from_slice_get, slice_get_within}
use Rattle.std.specs.Option.{option_map_or}
use Rattle.std.proofs.lemmas.List.Elements.{All-contains, Contains-append_left, Contains-push}
use Rattle.jh_num.proofs.Public.{IsFound_from_list_any, Contains_cases, Contains_map, Contains_tail}
use Rattle.jh_cellcfg.specs.declared.config.CellConfig.{CellConfig}
use Rattle.jh_cellcfg.specs.declared.config.PciDevice.{PciDevice}
use Rattle.jh_cellcfg.specs.declared.live.Live.{Live}
use Rattle.jh_cellcfg.specs.declared.region.Region.{Region}
use Rattle.jh_cellcfg.specs.Lives.{has_id}
use Rattle.jh_cellcfg.specs.Regions.{has_flags, has_place, phys_end, is_comm, is_unshared}
use Rattle.jh_check.specs.Regions.{both_shared}
use Rattle.jh_check.specs.Clean.{IsClean, IsSection, IsGoodDevice, IsSameSection}
use Rattle.jh_check.proofs.Public.{may_join}
use Rattle.jh_shape.specs.Laws.{IsTaken}
use Rattle.jh_call.specs.declared.call.Call.{Call}
use Rattle.jh_call.specs.declared.call.Call.TheVariants.{Create, Start, Destroy}
use Rattle.jh_ivshmem.specs.declared.endpoint.Endpoint.{Endpoint}
use Rattle.jh_ivshmem.specs.declared.spec.EndpointSpec.{EndpointSpec}
use Rattle.jh_ivshmem.specs.declared.spec.EndpointWord.{EndpointWord}
use Rattle.jh_ivshmem.specs.Links.{endpoint_word_written}
use Rattle.jh_ivshmem.specs.Specs.{endpoint_word_of}
use Rattle.jh_script.specs.declared.image.Image.{Image}
use Rattle.jh_history.specs.declared.form.Form.{Form}
use Rattle.jh_history.specs.declared.place.Place.{Place}
use Rattle.jh_history.specs.declared.place.Place.TheVariants.{Physical, Page}
use Rattle.jh_history.specs.declared.access.Access.TheVariants.{Write as ToWrite}
use Rattle.jh_history.specs.declared.comm.PageWrite.{PageWrite}
use Rattle.jh_history.specs.declared.entry.Entry.{Entry}
use Rattle.jh_history.specs.declared.entry.Act.{Act}
use Rattle.jh_history.specs.declared.entry.Act.TheVariants.{Write, Commit}
use Rattle.jh_history.specs.declared.call.OpenCall.{OpenCall}
use Rattle.jh_history.specs.declared.call.Phase.{Phase}
use Rattle.jh_history.specs.declared.call.Phase.TheVariants.{ToCreate}
use Rattle.jh_history.specs.Access.{with_endpoint_word_if}
use Rattle.jh_history.specs.Commits.{cells_by, is_commit}
use Rattle.jh_history.specs.Devices.{place_of_section, specs_of}
use Rattle.jh_history.specs.Endpoints.{changing, changing_by, specs_changing, with_words}
use Rattle.jh_history.specs.Facts.{Facts}
use Rattle.jh_history.specs.Places.{is_same, with_byte, written, number_of}
use Rattle.jh_history.specs.Pages.{page_after, with_page_write, page_write_by}
use Rattle.jh_history.specs.Bytes.{byte_written, byte_after}
use Rattle.jh_history.specs.History.{cells_after, facts}
use Rattle.jh_shape.specs.Lives.{configs_of}
use Rattle.jh_history.specs.Due.{IsLegal}
use Rattle.jh_history.specs.Admitted.{IsAdmitted}
use Rattle.jh_history.proofs.Public.{facts_push, IsLegal_begin, configs_joined, found_live, legal_sound, spec_cell}
use Rattle.jh_history.specs.Sound.{AreSoundCells, IsOfDevice, IsInPhase, IsSoundCall, IsSound}
use Rattle.jh_laws.specs.Held.{IsHeld, AreLinkedSections, IsOwnOrLinked}
use Rattle.jh_laws.specs.Vectors.{PutsRegister}
use Rattle.jh_laws.specs.Written.{WritesWordThere}
use Rattle.jh_laws.proofs.ListedLemmas.{same_place, listed}
use Rattle.jh_laws.specs.Ends.{AreItsPlaces, IsAnsweredByRegister}
use Rattle.jh_laws.proofs.WindowLemmas.{spec_is}
use Rattle.jh_laws.proofs.DevicesLemmas.{endpoint_held}
use Rattle.jh_laws.proofs.EndsLemmas.{IsSmallAct, small_at}
use Rattle.jh_laws.proofs.WordLemmas.{IsByteAt, IsApart, endpoint_word_cases, endpoint_word_other, value_fits, state_put, IsInWords, AreApart, words_kept, words_or, words_page, specs_none, is_physical}
use Rattle.jh_laws.proofs.HeldLemmas.{at_same}
use Rattle.jh_laws.proofs.StoredLemmas.{IsGivenTo, listed_at, byte_put, IsStored, IsWord, placed, places_given}
use Rattle.jh_laws.proofs.FactsLemmas.{byte_after_holds}

-- ---- places

abbrev cell_in_place : Place → ℕ
cell_in_place (Physical p) = p
cell_in_place (Page cell offset) = cell

-- ---- what a write changes

-- a place that isn't written keeps its byte
pub written_other : (byte : Place → ℕ) (places : List Place) (value : ℕ) (q : Place) → list_any (is_same q) places ≡ false → written byte places value q ≡ byte q
written_other byte [] value q none = refl
written_other byte (place ∷ places) value q none =
    let parts = or_parts (is_same q place) (list_any (is_same q) places) none in
    written_other (with_byte byte place (value % 256)) places (value / 256) q parts.1 ∙ ap (λ (b : Bool). cond b (value % 256) (byte q)) parts.0

-- a region of the cell gives it the place
abbrev MayWrite : Image → Facts → ℕ → Place → Type 0
MayWrite image f id q = (at : ℕ) × IsGivenTo image f.cells id at q

changed_at : (image : Image) (f : Facts) (id at width value : ℕ) (q : Place) (place : ℕ → Place) → AreItsPlaces image f.cells id ToWrite at width place → written f.byte (listed place width) value q ≢ f.byte q → MayWrite image f id q
changed_at image f id at width value q place are changed =
    ⊎_elim
    (λ (some : list_any (is_same q) (listed place width) ≡ true).
    let found = IsFound_from_list_any (is_same q) (listed place width) some in
    let P : Place → Type 0 = λ p. Contains (listed place width) p in
    let k = listed_at place width q (subst P (sym (same_place q found.0 found.1.passes)) found.1.among) in
    let G : Place → Type 0 = IsGivenTo image f.cells id (at + k.0) in
    (at + k.0, subst G (sym k.2) (places_given image f.cells id at width place are k.0 k.1)))
    (λ (none : list_any (is_same q) (listed place width) ≡ false). absurd (changed (written_other f.byte (listed place width) value q none)))
    (cases_Bool (list_any (is_same q) (listed place width)))

-- the act puts a word of a state table there, which is that of the register of a device of the cell
pub record PutsWordAt (image : Image) (f : Facts) (id : ℕ) (act : Act) (q : Place) : Type 0 where
  pub value : ℕ
  pub endpoint : Endpoint
  pub puts : PutsRegister image f id act 0x10 value endpoint
  pub other : value ≢ endpoint.state
  pub index : ℕ
  pub there : IsByteAt (endpoint_word_of endpoint.spec value) q index

-- what the act of the cell writes itself it writes at a place that a region of the cell gives it, or as such a word
abbrev pub MayWriteBy : Image → Facts → ℕ → Act → Place → Type 0
MayWriteBy image f id act q = MayWrite image f id q ⊎ PutsWordAt image f id act q

word_at : (image : Image) (f : Facts) (id at width value : ℕ) (q : Place) (h : IsWord image f id at width) (o : Option EndpointWord) → endpoint_word_written h.endpoint h.bar h.offset value ≡ o → with_endpoint_word_if o f.byte q ≢ f.byte q → PutsWordAt image f id (Write width at value true) q
word_at image f id at width value q h None is changed = absurd (changed refl)
word_at image f id at width value q h (Some word) is changed =
    let put = state_put h.endpoint h.bar h.offset value word is in
    let R : ℕ → ℕ → Type 0 = λ b o. IsAnsweredByRegister image f id ToWrite at width h.number b o h.endpoint in
    let B : ℕ → Type 0 = λ b. R b h.offset in
    ⊎_elim
    (λ (there : (k : ℕ) × IsByteAt word q k).
    let S : EndpointWord → Type 0 = λ s. IsByteAt s q there.0 in
    record {
      value = value;
      endpoint = h.endpoint;
      puts = (refl, refl, (h.number, subst (R 0) put.offset_is (subst B put.bar_is h.by)));
      other = put.other;
      index = there.0;
      there = subst S put.is there.1;
    })
    (λ (apart : IsApart word q). absurd (changed (endpoint_word_other word f.byte q apart)))
    (endpoint_word_cases word q)

write_of_reach : (image : Image) (f : Facts) (id at width value : ℕ) (q : Place) → IsSound image f → value < 256 ^ width → byte_put image f id at width value q ≢ f.byte q → MayWriteBy image f id (Write width at value true) q
write_of_reach image f id at width value q sound small changed =
    ⊎_elim
    (λ (h : IsStored image f id at width). inl (changed_at image f id at width value q h.place h.are (λ same. changed (ap (λ (b : Place → ℕ). b q) (h.stored value) ∙ same))))
    (λ more. ⊎_elim
    (λ (h : IsWord image f id at width).
    let same : value % 2 ^ 32 ≡ value = value_fits width value h.by.wide small in
    let stored : byte_put image f id at width value q ≡ with_endpoint_word_if (endpoint_word_written h.endpoint h.bar h.offset value) f.byte q =
    ap (λ (b : Place → ℕ). b q) (h.stored value) ∙ ap (λ (v : ℕ). with_endpoint_word_if (endpoint_word_written h.endpoint h.bar h.offset v) f.byte q) same in
    inr (word_at image f id at width value q h (endpoint_word_written h.endpoint h.bar h.offset value) refl (λ e. changed (stored ∙ e))))
    (λ (nowhere : (v : ℕ) → byte_put image f id at width v ≡ f.byte). absurd (changed (ap (λ (b : Place → ℕ). b q) (nowhere value))))
    more)
    (placed image f id at width sound)

written_by : (image : Image) (f : Facts) (id : ℕ) (act : Act) (q : Place) → IsSound image f → IsSmallAct act → byte_written image f id act q ≢ f.byte q → MayWriteBy image f id act q
written_by image f id (Write width at value true) q sound small changed = write_of_reach image f id at width value q sound small.1 changed
written_by image f id _ q sound small changed = absurd (changed refl)

-- the hypervisor writes into pages alone
pub physical_kept : (write : Option PageWrite) (byte : Place → ℕ) (p : ℕ) → with_page_write write byte (Physical p) ≡ byte (Physical p)
physical_kept None byte p = refl
physical_kept (Some write) byte p = refl

-- and into that of the cell whose page it is
page_kept : (write : Option PageWrite) (byte : Place → ℕ) (cell offset : ℕ) → ((w : PageWrite) → write ≡ Some w → w.cell ≢ cell) → with_page_write write byte (Page cell offset) ≡ byte (Page cell offset)
page_kept None byte cell offset other = refl
page_kept (Some write) byte cell offset other =
    let apart : eqb cell write.cell ≡ false = false_from_ne_true (eqb cell write.cell) (λ same. other write refl (sym (eqb-true cell write.cell same))) in
    ap (λ (b : Bool). cond b (page_after write.change (λ k. byte (Page cell k)) offset) (byte (Page cell offset))) (and_left (eqb cell write.cell) (nat_lt offset 4096) apart)

-- ---- who may write at a place that is held

-- a place of physical memory that a region of the cell gives is one of the region's
given_place : (image : Image) (cells : List Live) (id at p : ℕ) (h : IsGivenTo image cells id at (Physical p)) → (is_comm h.region ≡ false) × (has_place h.region p ≡ true)
given_place image cells id at p h =
    let r : Region = h.region in
    let offset : ℕ = at - r.virt_start in
    given_by (is_comm r) refl h.given
  where
    given_by : (b : Bool) → is_comm h.region ≡ b → Physical p ≡ cond b (Page h.cell.id (at - h.region.virt_start)) (Physical (h.region.phys_start + (at - h.region.virt_start))) → (is_comm h.region ≡ false) × (has_place h.region p ≡ true)
    given_by true is e = absurd (true≢false (ap is_physical e))
    given_by false is e =
        let same : p ≡ h.region.phys_start + (at - h.region.virt_start) = ap number_of e in
        let first : h.region.virt_start ≤ at = h.first in
        let last : at < h.region.virt_start + h.region.size = h.last in
        (is, and_from (nat_le h.region.phys_start p) (nat_lt p (phys_end h.region)) (le-leb h.region.phys_start p (omega arith)) (lt-ltb p (phys_end h.region) (omega arith)))

unshared_parts : (region : Region) → is_unshared region ≡ true → (is_comm region ≡ false) × (has_flags 0x80 region ≡ false)
unshared_parts region h =
    let parts = and_parts (not (is_comm region)) (not (has_flags 0x80 region)) h in
    (not-true (is_comm region) parts.0, not-true (has_flags 0x80 region) parts.1)

held_taken : (cells : List Live) (live : Live) (number : ℕ) (region : Region) (place : ℕ) → IsHeld cells live number region place → IsTaken cells place
held_taken cells live number region place h =
    let regions : List Region = live.config.memory_regions in
    record {
      cell = live;
      live = h.lives;
      region = region;
      among = (number, slice_get_within regions number region h.item, get_or_from_slice_get regions number region region h.item);
      alone = h.alone;
      has = h.has;
      withheld = h.withheld;
    }

-- two different cells of the board with the place: it is in the same section of linked devices of theirs
sections_by : (image : Image) (configs : List CellConfig) (i j : ℕ) (one other : CellConfig) (r s : ℕ) (x y : Region) (place : ℕ) → IsClean image.system configs → i < j → slice_get configs i ≡ Some one → slice_get configs j ≡ Some other
    → slice_get one.memory_regions r ≡ Some x → slice_get other.memory_regions s ≡ Some y → is_comm x ≡ false → is_comm y ≡ false → has_place x place ≡ true → has_place y place ≡ true → both_shared x y ≡ false → IsSameSection one r other s
sections_by image configs i j one other r s x y place clean lt at_i at_j item_x item_y no_x no_y has_x has_y unshared =
    clean.together (suc i) (suc j) one other (omega arith) (omega arith) at_i at_j r s x y item_x item_y no_x no_y place has_x has_y unshared

numbered : {X : Type 0} (xs : List X) (x : X) (held : Contains xs x) → slice_get xs held.0 ≡ Some x
numbered xs x held = slice_get-get_or xs held.0 x held.1 ∙ ap Some held.2

-- a cell that has a place which another one holds: it is that one, or the place is in a section of linked devices of theirs
pub record HasPlace (cell : CellConfig) (place : ℕ) : Type 0 where
  pub number : ℕ
  pub region : Region
  pub item : slice_get cell.memory_regions number ≡ Some region
  pub no_comm : is_comm region ≡ false
  pub has : has_place region place ≡ true

two_cells : (image : Image) (configs : List CellConfig) (holder other : CellConfig) (number : ℕ) (region : Region) (place : ℕ) → IsClean image.system configs → Contains configs holder → Contains configs other
    → slice_get holder.memory_regions number ≡ Some region → is_unshared region ≡ true → has_place region place ≡ true → (h : HasPlace other place) → (other.id ≡ holder.id) ⊎ AreLinkedSections holder number other h.number
two_cells image configs holder other number region place clean own there item alone has h =
    let mine = unshared_parts region alone in
    let y : Region = h.region in
    let one_way : both_shared region y ≡ false = and_left (has_flags 0x80 region) (has_flags 0x80 y) mine.1 in
    let other_way : both_shared y region ≡ false = and_right (has_flags 0x80 y) (has_flags 0x80 region) mine.1 in
    ⊎_elim
    (λ (lt : own.0 < there.0).
    inr (inl (sections_by image configs own.0 there.0 holder other number h.number region y place clean lt (numbered configs holder own) (numbered configs other there) item h.item mine.0 h.no_comm has h.has one_way)))
    (λ (le : there.0 ≤ own.0).
    ⊎_elim
    (λ (lt : there.0 < own.0).
    inr (inr (sections_by image configs there.0 own.0 other holder h.number number y region place clean lt (numbered configs other there) (numbered configs holder own) h.item item h.no_comm mine.0 h.has has other_way)))
    (λ (ge : own.0 ≤ there.0).
    let e : there.0 ≡ own.0 = omega arith in
    let P : ℕ → Type 0 = λ k. get_or configs k other ≡ other in
    let same : other ≡ holder = at_same configs own.0 other holder own.1 (subst P e there.2) own.2 in
    inl (ap (λ (c : CellConfig). c.id) same))
    (cases_lt there.0 own.0))
    (cases_lt own.0 there.0)

-- so it is with a live cell that has a place which another one holds for itself
live_has : (image : Image) (cells : List Live) (live : Live) (number : ℕ) (region : Region) (place : ℕ) (other : CellConfig) → IsClean image.system (configs_of cells) → IsHeld cells live number region place → Contains (configs_of cells) other → HasPlace other place
    → IsOwnOrLinked cells live.config number other.id
live_has image cells live number region place other clean held there h =
    let own : Contains (configs_of cells) live.config = Contains_map (λ (l : Live). l.config) cells live held.lives in
    ⊎_elim
    (λ (same : other.id ≡ live.config.id). inl same)
    (λ (linked : AreLinkedSections live.config number other h.number). inr (other, there, refl, h.number, linked))
    (two_cells image (configs_of cells) live.config other number region place clean own there held.item held.alone held.has h)

other_writes : (image : Image) (cells : List Live) (live : Live) (number : ℕ) (region : Region) (place : ℕ) (other : CellConfig) (at : ℕ) → AreSoundCells image.system (configs_of cells) → IsHeld cells live number region place → Contains (configs_of cells) other
    → (given : IsGivenTo image cells other.id at (Physical place)) → given.cell ≡ other → IsOwnOrLinked cells live.config number other.id
other_writes image cells live number region place other at sound held there given is_other =
    let yours = given_place image cells other.id at place given in
    let item_y : slice_get other.memory_regions given.among.0 ≡ Some given.region = ap (λ (c : CellConfig). slice_get c.memory_regions given.among.0) (sym is_other) ∙ numbered given.cell.memory_regions given.region given.among in
    live_has image cells live number region place other sound.clean held there (record { number = given.among.0; region = given.region; item = item_y; no_comm = yours.0; has = yours.1 })

-- the same, by the name of the cell itself
abbrev own_name : (image : Image) (cells : List Live) (id at : ℕ) (place : Place) (h : IsGivenTo image cells id at place) → IsGivenTo image cells h.cell.id at place
own_name image cells id at place h = record {
  cell = h.cell;
  live = h.live;
  named = refl;
  region = h.region;
  among = h.among;
  first = h.first;
  last = h.last;
  given = h.given;
  left = h.left;
}

-- so such a place is written by its cell, or by one with a linked device
pub held_writes : (image : Image) (f : Facts) (live : Live) (number : ℕ) (region : Region) (place id at : ℕ) → AreSoundCells image.system (configs_of f.cells) → IsHeld f.cells live number region place → IsGivenTo image f.cells id at (Physical place)
    → IsOwnOrLinked f.cells live.config number id
held_writes image f live number region place id at sound held h =
    let P : ℕ → Type 0 = IsOwnOrLinked f.cells live.config number in
    ⊎_elim
    (λ (root : h.cell ≡ image.system.root). absurd (h.left (ap (λ (c : CellConfig). c.id) root) (held_taken f.cells live number region place held)))
    (λ (there : Contains (configs_of f.cells) h.cell). subst P h.named (other_writes image f.cells live number region place h.cell at sound held there (own_name image f.cells id at (Physical place) h) refl))
    h.live

-- ---- words of state tables that change there

-- the state table of a device has the words of all its peers
table_has : (image : Image) (configs : List CellConfig) (config : CellConfig) (spec : EndpointSpec) (value k place : ℕ) → IsClean image.system configs → (held : Contains (image.system.root ∷ configs) config) → Contains (specs_of config) spec
    → IsByteAt (endpoint_word_of spec value) (Physical place) k → HasPlace config place
table_has image configs config spec value k place clean held own there =
    let s = spec_is config spec own in
    let device : PciDevice = s.device in
    let numbered_config = numbered (image.system.root ∷ configs) config held in
    let good : IsGoodDevice config device = clean.devices held.0 config numbered_config spec.device device s.item s.kind in
    let at : ℕ = device.shmem_regions_start + 0 in
    let join = may_join image.system configs clean held.0 config numbered_config spec.device device s.item s.kind in
    let table : Region = join.table.0 in
    let here : at ≡ device.shmem_regions_start = omega arith in
    let item : slice_get config.memory_regions at ≡ Some table = ap (slice_get config.memory_regions) here ∙ join.table.1 in
    let section : IsSection config device 0 table = record { number = omega arith; item = item } in
    let size : 4096 ≤ table.size = (good.table table section).some in
    let first : spec.table ≡ table.phys_start = ap (λ (t : EndpointSpec). t.table) s.is ∙ ap place_of_section item in
    let id : spec.id ≡ device.shmem_dev_id = ap (λ (t : EndpointSpec). t.id) s.is in
    let own_id : device.shmem_dev_id < device.shmem_peers = good.own in
    let few : device.shmem_peers ≤ 16 = good.few in
    let below : k < 4 = there.0 in
    let is : place ≡ spec.table + 4 * spec.id + k = ap number_of there.1 in
    record {
      number = at;
      region = table;
      item = item;
      no_comm = (good.sections 0 table section).no_comm;
      has = and_from (nat_le table.phys_start place) (nat_lt place (phys_end table)) (le-leb table.phys_start place (omega arith)) (lt-ltb place (phys_end table) (omega arith));
    }

-- a device whose word a Commit clears is that of a cell which lives before it or behind it
pub record IsChanging (image : Image) (f : Facts) (entry : Entry) (spec : EndpointSpec) : Type 0 where
  pub config : CellConfig
  pub among : Contains (specs_of config) spec
  pub lives : Contains (configs_of f.cells) config ⊎ (IsClean image.system (configs_of f.cells ++ config ∷ []) × (configs_of (cells_after f entry) ≡ configs_of f.cells ++ config ∷ []))

nothing_in : (spec : EndpointSpec) → Contains [] spec → ⊥
nothing_in spec held = let below : held.0 < 0 = held.1 in let no : ⊥ = omega arith in no

live_changing : (image : Image) (f : Facts) (entry : Entry) (spec : EndpointSpec) (id : ℕ) (o : Option Live) → find (has_id id) f.cells ≡ o → Contains (option_map_or specs_of (option_map (λ (l : Live). l.config) o) []) spec → IsChanging image f entry spec
live_changing image f entry spec id None is held = absurd (nothing_in spec held)
live_changing image f entry spec id (Some live) is held = record { config = live.config; among = held; lives = inl (found_live f.cells id live is).0 }

call_changing : (image : Image) (f : Facts) (entry : Entry) (spec : EndpointSpec) (caller : ℕ) (call : Call) (phase : Phase) → f.call ≡ Some (record { caller = caller; call = call; phase = phase }) → entry.act ≡ Commit
    → IsInPhase image (configs_of f.cells) f.cpu caller call phase → Contains (option_map_or specs_of (changing f.cells call phase) []) spec → IsChanging image f entry spec
call_changing image f entry spec caller (Create at) (ToCreate config) is commits phase held = record {
  config = config;
  among = held;
  lives = inr (
    phase.1.clean,
    ap (λ (o : Option OpenCall). configs_of (cells_by o f.cells entry.act)) is
        ∙ ap (λ (act : Act). configs_of (cells_by (Some (record { caller = caller; call = Create at; phase = ToCreate config })) f.cells act)) commits
        ∙ configs_joined f.cells config,
  );
}
call_changing image f entry spec caller (Start id) phase is commits sound held = live_changing image f entry spec id (find (has_id id) f.cells) refl held
call_changing image f entry spec caller (Destroy id) phase is commits sound held = live_changing image f entry spec id (find (has_id id) f.cells) refl held
call_changing image f entry spec caller _ phase is commits sound held = absurd (nothing_in spec held)

changing_on : (image : Image) (f : Facts) (entry : Entry) (spec : EndpointSpec) (call : Option OpenCall) → f.call ≡ call → entry.act ≡ Commit → IsSoundCall image (configs_of f.cells) f.cpu call
    → Contains (option_map_or specs_of (changing_by f.cells call Commit) []) spec → IsChanging image f entry spec
changing_on image f entry spec None is commits sound held = absurd (nothing_in spec held)
changing_on image f entry spec (Some o) is commits sound held = call_changing image f entry spec o.caller o.call o.phase is commits sound.phase held

-- an act is a Commit or none
pub commit_or : (act : Act) → (act ≡ Commit) ⊎ (is_commit act ≡ false)
commit_or Commit = inl refl
commit_or _ = inr refl

pub changing_is : (image : Image) (f : Facts) (entry : Entry) (spec : EndpointSpec) → IsSound image f → Contains (specs_changing f entry.act) spec → IsChanging image f entry spec
changing_is image f entry spec sound held =
    let P : Act → Type 0 = λ act. Contains (option_map_or specs_of (changing_by f.cells f.call act) []) spec in
    let Q : List EndpointSpec → Type 0 = λ specs. Contains specs spec in
    ⊎_elim
    (λ (commits : entry.act ≡ Commit). changing_on image f entry spec f.call refl commits sound.call (subst P commits held))
    (λ (other : is_commit entry.act ≡ false). absurd (nothing_in spec (subst Q (specs_none f entry.act other) held)))
    (commit_or entry.act)

-- whose such a word is
abbrev pub IsOwnerOf : Image → Facts → Entry → CellConfig → ℕ → ℕ → Type 0
IsOwnerOf image f entry holder number id =
    IsOwnOrLinked f.cells holder number id ⊎ IsOwnOrLinked (cells_after f entry) holder number id ⊎ (id ≡ image.system.root.id)

coming_owner : (image : Image) (f : Facts) (entry : Entry) (live : Live) (number : ℕ) (region : Region) (place : ℕ) (config : CellConfig) → IsHeld f.cells live number region place → IsClean image.system (configs_of f.cells ++ config ∷ [])
    → configs_of (cells_after f entry) ≡ configs_of f.cells ++ config ∷ [] → HasPlace config place → IsOwnerOf image f entry live.config number config.id
coming_owner image f entry live number region place config held clean behind h =
    let all : List CellConfig = configs_of f.cells ++ config ∷ [] in
    let own : Contains all live.config = Contains-append_left (configs_of f.cells) (config ∷ []) live.config (Contains_map (λ (l : Live). l.config) f.cells live held.lives) in
    let there : Contains all config = Contains-push (configs_of f.cells) config in
    let P : List CellConfig → Type 0 = λ configs. Contains configs config in
    ⊎_elim
    (λ (same : config.id ≡ live.config.id). inl (inl same))
    (λ (linked : AreLinkedSections live.config number config h.number). inr (inl (inr (config, subst P (sym behind) there, refl, h.number, linked))))
    (two_cells image all live.config config number region place clean own there held.item held.alone held.has h)

changing_owner : (image : Image) (f : Facts) (entry : Entry) (live : Live) (number : ℕ) (region : Region) (place : ℕ) (spec : EndpointSpec) (value k : ℕ) → IsSound image f → IsHeld f.cells live number region place → IsChanging image f entry spec
    → IsByteAt (endpoint_word_of spec value) (Physical place) k → IsOwnerOf image f entry live.config number spec.cell
changing_owner image f entry live number region place spec value k sound held h there =
    let P : ℕ → Type 0 = IsOwnerOf image f entry live.config number in
    let all : List CellConfig = configs_of f.cells ++ h.config ∷ [] in
    subst P (sym (spec_cell h.config spec h.among))
    (⊎_elim
    (λ (lives : Contains (configs_of f.cells) h.config).
    inl (live_has image f.cells live number region place h.config sound.cells.clean held lives
    (table_has image (configs_of f.cells) h.config spec value k place sound.cells.clean (Contains_tail image.system.root (configs_of f.cells) h.config lives) h.among there)))
    (λ comes.
    coming_owner image f entry live number region place h.config held comes.0 comes.1
    (table_has image all h.config spec value k place comes.0 (Contains_tail image.system.root all h.config (Contains-push (configs_of f.cells) h.config)) h.among there))
    h.lives)

endpoint_owner : (image : Image) (f : Facts) (entry : Entry) (live : Live) (number : ℕ) (region : Region) (place : ℕ) (e : Endpoint) (value k : ℕ) → IsSound image f → IsHeld f.cells live number region place → Contains f.endpoints e
    → IsByteAt (endpoint_word_of e.spec value) (Physical place) k → IsOwnerOf image f entry live.config number e.spec.cell
endpoint_owner image f entry live number region place e value k sound held there_e there =
    let own = All-contains (λ (o : Endpoint). IsOfDevice image (configs_of f.cells) o.spec) f.endpoints e sound.endpoints.own there_e in
    let config : CellConfig = own.0 in
    let P : ℕ → Type 0 = IsOwnerOf image f entry live.config number in
    subst P (sym (spec_cell config e.spec own.2))
    (⊎_elim
    (λ (root : image.system.root ≡ config). inr (inr (ap (λ (c : CellConfig). c.id) (sym root))))
    (λ (lives : Contains (configs_of f.cells) config).
    inl (live_has image f.cells live number region place config sound.cells.clean held lives (table_has image (configs_of f.cells) config e.spec value k place sound.cells.clean own.1 own.2 there)))
    (Contains_cases image.system.root (configs_of f.cells) config own.1))

-- the endpoint of a register that an act writes is there
register_held : (image : Image) (f : Facts) (id : ℕ) (act : Act) (offset value : ℕ) (e : Endpoint) → PutsRegister image f id act offset value e → Contains f.endpoints e
register_held image f id (Write width at value ok) offset put e puts = endpoint_held image f id puts.2.0 e puts.2.1.within.is.there
register_held image f id _ offset put e puts = absurd puts

cleared_there : (image : Image) (f : Facts) (entry : Entry) (live : Live) (number : ℕ) (region : Region) (place : ℕ) → IsSound image f → IsHeld f.cells live number region place → IsInWords (specs_changing f entry.act) (Physical place)
    → WritesWordThere image f entry live.config number place
cleared_there image f entry live number region place sound held h = record {
  spec = h.spec;
  value = 0;
  writes = inr (h.among, refl);
  index = h.index;
  within = h.there.0;
  there = ap number_of h.there.1;
  owner = changing_owner image f entry live number region place h.spec 0 h.index sound held (changing_is image f entry h.spec sound h.among) h.there;
}

put_there : (image : Image) (f : Facts) (entry : Entry) (live : Live) (number : ℕ) (region : Region) (place : ℕ) → IsSound image f → IsHeld f.cells live number region place → PutsWordAt image f entry.cell entry.act (Physical place)
    → WritesWordThere image f entry live.config number place
put_there image f entry live number region place sound held h = record {
  spec = h.endpoint.spec;
  value = h.value;
  writes = inl (h.endpoint, refl, h.puts, h.other);
  index = h.index;
  within = h.there.0;
  there = ap number_of h.there.1;
  owner = endpoint_owner image f entry live number region place h.endpoint h.value h.index sound held (register_held image f entry.cell entry.act 0x10 h.value h.endpoint h.puts) h.there;
}

pub held_changes : (image : Image) (f : Facts) (entry : Entry) (live : Live) (number : ℕ) (region : Region) (place : ℕ) → IsSound image f → IsSmallAct entry.act → IsHeld f.cells live number region place
    → byte_after image f entry (Physical place) ≢ f.byte (Physical place) → IsOwnOrLinked f.cells live.config number entry.cell ⊎ WritesWordThere image f entry live.config number place
held_changes image f entry live number region place sound small held changed =
    let specs : List EndpointSpec = specs_changing f entry.act in
    let own : Place → ℕ = byte_written image f entry.cell entry.act in
    let kept = physical_kept (page_write_by image f entry entry.act) (with_words specs own) place in
    ⊎_elim
    (λ (word : IsInWords specs (Physical place)). inr (cleared_there image f entry live number region place sound held word))
    (λ (apart : AreApart specs (Physical place)).
    ⊎_elim
    (λ (write : MayWrite image f entry.cell (Physical place)). inl (held_writes image f live number region place entry.cell write.0 sound.cells held write.1))
    (λ (word : PutsWordAt image f entry.cell entry.act (Physical place)). inr (put_there image f entry live number region place sound held word))
    (written_by image f entry.cell entry.act (Physical place) sound small (λ e. changed (kept ∙ words_kept specs own (Physical place) apart ∙ e))))
    (words_or specs (Physical place))

-- a page is written by its own cell
page_owner : (image : Image) (cells : List Live) (id at cell offset : ℕ) → IsGivenTo image cells id at (Page cell offset) → id ≡ cell
page_owner image cells id at cell offset h = sym h.named ∙ owner_by (is_comm h.region) h.given
  where
    owner_by : (b : Bool) → Page cell offset ≡ cond b (Page h.cell.id (at - h.region.virt_start)) (Physical (h.region.phys_start + (at - h.region.virt_start))) → h.cell.id ≡ cell
    owner_by true e = sym (ap cell_in_place e)
    owner_by false e = absurd (false≢true (ap is_physical e))

page_writes : (image : Image) (f : Facts) (entry : Entry) (cell offset : ℕ) → IsSound image f → IsSmallAct entry.act → with_words (specs_changing f entry.act) (byte_written image f entry.cell entry.act) (Page cell offset) ≢ f.byte (Page cell offset) → entry.cell ≡ cell
page_writes image f entry cell offset sound small changed =
    ⊎_elim
    (λ (write : MayWrite image f entry.cell (Page cell offset)). page_owner image f.cells entry.cell write.0 cell offset write.1)
    (λ (word : PutsWordAt image f entry.cell entry.act (Page cell offset)). absurd (false≢true (ap is_physical word.there.1)))
    (written_by image f entry.cell entry.act (Page cell offset) sound small (λ e. changed (words_page (specs_changing f entry.act) (byte_written image f entry.cell entry.act) cell offset ∙ e)))

page_by : (image : Image) (f : Facts) (entry : Entry) (cell offset : ℕ) (write : Option PageWrite) → page_write_by image f entry entry.act ≡ write → IsSound image f → IsSmallAct entry.act
    → with_page_write write (with_words (specs_changing f entry.act) (byte_written image f entry.cell entry.act)) (Page cell offset) ≢ f.byte (Page cell offset)
    → (entry.cell ≡ cell) ⊎ ((w : PageWrite) × (page_write_by image f entry entry.act ≡ Some w) × (w.cell ≡ cell))
page_by image f entry cell offset None is sound small changed = inl (page_writes image f entry cell offset sound small changed)
page_by image f entry cell offset (Some w) is sound small changed =
    ⊎_elim
    (λ (same : eqb w.cell cell ≡ true). inr (w, is, eqb-true w.cell cell same))
    (λ (apart : eqb w.cell cell ≡ false).
    let kept = page_kept (Some w) (with_words (specs_changing f entry.act) (byte_written image f entry.cell entry.act)) cell offset
    (λ v e same. both_ways (eqb w.cell cell) apart (eq-eqb w.cell cell (ap (λ (x : PageWrite). x.cell) (same_Some w v e) ∙ same))) in
    inl (page_writes image f entry cell offset sound small (λ e. changed (kept ∙ e))))
    (cases_Bool (eqb w.cell cell))

pub page_changes : (image : Image) (f : Facts) (entry : Entry) (cell offset : ℕ) → IsSound image f → IsSmallAct entry.act → byte_after image f entry (Page cell offset) ≢ f.byte (Page cell offset)
    → (entry.cell ≡ cell) ⊎ ((w : PageWrite) × (page_write_by image f entry entry.act ≡ Some w) × (w.cell ≡ cell))
page_changes image f entry cell offset sound small changed = page_by image f entry cell offset (page_write_by image f entry entry.act) refl sound small changed

-- ---- over an entry of a journal

pub byte_behind : (image : Image) (form : Form) (before : List Entry) (entry : Entry) (q : Place) → (facts image form (before ++ entry ∷ [])).byte q ≡ byte_after image (facts image form before) entry q
byte_behind image form before entry q = ap (λ (f : Facts). f.byte q) (facts_push image form before entry) ∙ ap (λ (b : Place → ℕ). b q) (byte_after_holds image (facts image form before) entry)

pub held_at : (image : Image) (form : Form) (before rest : List Entry) (entry : Entry) (live : Live) (number : ℕ) (region : Region) (place : ℕ) → IsAdmitted image → IsLegal image form (before ++ entry ∷ rest) → IsHeld (facts image form before).cells live number region place
    → (facts image form (before ++ entry ∷ [])).byte (Physical place) ≢ (facts image form before).byte (Physical place) → IsOwnOrLinked (facts image form before).cells live.config number entry.cell ⊎ WritesWordThere image (facts image form before) entry live.config number place
held_at image form before rest entry live number region place admitted legal held changed =
    held_changes image (facts image form before) entry live number region place (legal_sound image form before admitted (IsLegal_begin image form before (entry ∷ rest) legal)) (small_at image form before rest entry admitted legal) held
    (λ e. changed (byte_behind image form before entry (Physical place) ∙ e))

pub page_at : (image : Image) (form : Form) (before rest : List Entry) (entry : Entry) (cell offset : ℕ) → IsAdmitted image → IsLegal image form (before ++ entry ∷ rest)
    → (facts image form (before ++ entry ∷ [])).byte (Page cell offset) ≢ (facts image form before).byte (Page cell offset)
    → (entry.cell ≡ cell) ⊎ ((w : PageWrite) × (page_write_by image (facts image form before) entry entry.act ≡ Some w) × (w.cell ≡ cell))
page_at image form before rest entry cell offset admitted legal changed =
    page_changes image (facts image form before) entry cell offset (legal_sound image form before admitted (IsLegal_begin image form before (entry ∷ rest) legal)) (small_at image form before rest entry admitted legal)
    (λ e. changed (byte_behind image form before entry (Page cell offset) ∙ e))
