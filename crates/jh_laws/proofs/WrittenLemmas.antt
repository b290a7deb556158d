-- What an entry writes.
use Rattle.std.proofs.Common.{◌≡◌, ◌≢◌, ℕ, zero, suc, ◌+◌, ◌-◌, ◌*◌, ◌/◌, ◌%◌, ◌^◌, ◌<◌, ◌≤◌, List, [], ◌∷◌, ◌++◌, Bool, true, false, cond, ◌&&◌, eqb, Option, Some, None, refl, sym, ap, subst, ◌∙◌, inl, inr, ⊎_elim, append_assoc, append-nil, arith}
use Rattle.std.specs.Prelude.{Contains, slice_get, nat_lt, nat_le}
use Rattle.std.proofs.lemmas.Bool.{both_ways, and_parts, and_from, eqb-true, false≢true, true≢false, lt-ltb, ltb-true, le-leb, false_from_ne_true}
use Rattle.std.proofs.lemmas.Option.{none-some, same_Some, slice_get-get_or}
use Rattle.jh_num.proofs.Public.{same_number}
use Rattle.jh_cellcfg.specs.declared.config.CellConfig.{CellConfig}
use Rattle.jh_cellcfg.specs.declared.live.Live.{Live}
use Rattle.jh_cellcfg.specs.declared.region.Region.{Region}
use Rattle.jh_cellcfg.specs.Regions.{has_place, phys_end, is_comm}
use Rattle.jh_check.specs.Laws.{IsNumbered, IsItem}
use Rattle.jh_ivshmem.specs.declared.endpoint.Endpoint.{Endpoint}
use Rattle.jh_ivshmem.specs.declared.spec.EndpointSpec.{EndpointSpec}
use Rattle.jh_ivshmem.specs.declared.spec.EndpointWord.{EndpointWord}
use Rattle.jh_ivshmem.specs.Links.{endpoint_word_written}
use Rattle.jh_ivshmem.specs.Specs.{endpoint_word_of}
use Rattle.jh_script.specs.declared.image.Image.{Image}
use Rattle.jh_history.specs.declared.form.Form.{Form}
use Rattle.jh_history.specs.declared.place.Place.{Place}
use Rattle.jh_history.specs.declared.place.Place.TheVariants.{Physical, Page}
use Rattle.jh_history.specs.declared.access.Access.{Access}
use Rattle.jh_history.specs.declared.access.Access.TheVariants.{Write as ToWrite}
use Rattle.jh_history.specs.declared.comm.PageWrite.{PageWrite}
use Rattle.jh_history.specs.declared.entry.Entry.{Entry}
use Rattle.jh_history.specs.declared.entry.Act.{Act}
use Rattle.jh_history.specs.declared.entry.Act.TheVariants.{Write}
use Rattle.jh_history.specs.Access.{place_in_cell, with_endpoint_word_if}
use Rattle.jh_history.specs.Endpoints.{specs_changing, with_words}
use Rattle.jh_history.specs.Facts.{Facts}
use Rattle.jh_history.specs.Places.{further, number_of}
use Rattle.jh_history.specs.Lives.{cell_in}
use Rattle.jh_history.specs.Pages.{page_after, with_page_write, page_write_by}
use Rattle.jh_history.specs.Bytes.{byte_written, byte_after}
use Rattle.jh_history.specs.History.{facts}
use Rattle.jh_shape.specs.Lives.{configs_of}
use Rattle.jh_history.specs.Due.{IsLegal}
use Rattle.jh_history.specs.Admitted.{IsAdmitted}
use Rattle.jh_history.proofs.Public.{same_function, written_over, IsLegal_begin, place_in_cell_further, legal_sound}
use Rattle.jh_history.specs.Sound.{AreSoundCells, IsSound}
use Rattle.jh_laws.specs.Grants.{IsGiven}
use Rattle.jh_laws.specs.Held.{IsRootOrLive, IsGrantedTo}
use Rattle.jh_laws.specs.Written.{IsByteBy, Puts, IsByteOfPage, WritesWord, IsByteOfWord, WritesByte, NoneWrites}
use Rattle.jh_laws.specs.Vectors.{PutsRegister}
use Rattle.jh_laws.proofs.ListedLemmas.{over_at, over_other, listed}
use Rattle.jh_laws.specs.Ends.{AreItsPlaces, GivesPlaces, IsAnsweredByRegister}
use Rattle.jh_laws.proofs.HeldLemmas.{live_cell, number_of_holds}
use Rattle.jh_laws.proofs.EndsLemmas.{IsSmallAct, small_at}
use Rattle.jh_laws.proofs.StoredLemmas.{byte_put, write_stored, register_stored, IsStored, IsWord, placed}
use Rattle.jh_laws.proofs.WordLemmas.{IsByteAt, IsApart, state_word, value_fits, state_put, endpoint_word_at, endpoint_word_other, zero_byte, words_put, words_kept, words_page, specs_none, is_physical}
use Rattle.jh_laws.proofs.PlacesHeldLemmas.{physical_kept, byte_behind}
use Rattle.jh_history.specs.Commits.{is_commit}

-- ---- no two addresses of a cell have one place

-- regions of one number are one
same_item : (cell : CellConfig) (r s : ℕ) (x y : Region) → r ≡ s → IsItem cell r x → IsItem cell s y → x ≡ y
same_item cell r s x y same item_x item_y =
    let P : ℕ → Type 0 = λ n. slice_get cell.memory_regions n ≡ Some y in
    same_Some x y (sym item_x ∙ subst P (sym same) item_y)

item_of : (cell : CellConfig) (x : Region) (held : Contains cell.memory_regions x) → IsItem cell held.0 x
item_of cell x held = slice_get-get_or cell.memory_regions held.0 x held.1 ∙ ap Some held.2

-- the two addresses in one region
same_offset : (x y : Region) (a b : ℕ) → x ≡ y → x.virt_start ≤ a → y.virt_start ≤ b → a - x.virt_start ≡ b - y.virt_start → a ≡ b
same_offset x y a b same first other offset =
    let P : Region → Type 0 = λ r. r.virt_start ≤ b × (a - x.virt_start ≡ b - r.virt_start) in
    let h = subst P (sym same) (other, offset) in
    let le : x.virt_start ≤ b = h.0 in
    let e : a - x.virt_start ≡ b - x.virt_start = h.1 in
    omega arith

in_place : (x : Region) (a p : ℕ) → x.virt_start ≤ a → a < x.virt_start + x.size → p ≡ x.phys_start + (a - x.virt_start) → has_place x p ≡ true
in_place x a p first last is = and_from (nat_le x.phys_start p) (nat_lt p (phys_end x)) (le-leb x.phys_start p (omega arith)) (lt-ltb p (phys_end x) (omega arith))

-- the only communication region of a cell
comm_only : (image : Image) (configs : List CellConfig) (a : ℕ) (cell : CellConfig) (r s : ℕ) (x y : Region) → AreSoundCells image.system configs → IsNumbered image.system configs a cell → IsItem cell r x → IsItem cell s y → 0 < x.size → 0 < y.size → is_comm x ≡ true → is_comm y ≡ true → r ≡ s
comm_only image configs zero cell r s x y sound is item_x item_y some_x some_y comm_x comm_y =
    let P : CellConfig → Type 0 = λ c. IsItem c r x in
    absurd (both_ways (is_comm x) (sound.clean.no_comm r x (subst P (sym (same_Some image.system.root cell is)) item_x) some_x) comm_x)
comm_only image configs (suc a) cell r s x y sound is item_x item_y some_x some_y comm_x comm_y =
    sym ((sound.clean.comms (suc a) cell (omega arith) is r x item_x some_x comm_x).only s y item_y some_y comm_y)

single_by : (image : Image) (cells : List Live) (cell : CellConfig) (access : Access) (a b : ℕ) (q : Place) (g : IsGiven cell access a q) (h : IsGiven cell access b q) (one other : Bool) → AreSoundCells image.system (configs_of cells) → IsRootOrLive image cells cell
    → is_comm g.region ≡ one → is_comm h.region ≡ other
    → q ≡ cond one (Page cell.id (a - g.region.virt_start)) (Physical (g.region.phys_start + (a - g.region.virt_start)))
    → q ≡ cond other (Page cell.id (b - h.region.virt_start)) (Physical (h.region.phys_start + (b - h.region.virt_start))) → a ≡ b
single_by image cells cell access a b q g h true true sound live comm_x comm_y at_a at_b =
    let number = number_of_holds image cells cell live in
    let x : Region = g.region in
    let y : Region = h.region in
    let first_a : x.virt_start ≤ a = g.first in
    let last_a : a < x.virt_start + x.size = g.last in
    let first_b : y.virt_start ≤ b = h.first in
    let last_b : b < y.virt_start + y.size = h.last in
    let same = comm_only image (configs_of cells) number.0 cell g.among.0 h.among.0 x y sound number.1 (item_of cell x g.among) (item_of cell y h.among) (omega arith) (omega arith) comm_x comm_y in
    same_offset x y a b (same_item cell g.among.0 h.among.0 x y same (item_of cell x g.among) (item_of cell y h.among)) first_a first_b (ap number_of (sym at_a ∙ at_b))
single_by image cells cell access a b q g h false false sound live comm_x comm_y at_a at_b =
    let number = number_of_holds image cells cell live in
    let x : Region = g.region in
    let y : Region = h.region in
    let p : ℕ = x.phys_start + (a - x.virt_start) in
    let same_place : p ≡ y.phys_start + (b - y.virt_start) = ap number_of (sym at_a ∙ at_b) in
    let same : g.among.0 ≡ h.among.0 = sound.clean.places number.0 cell number.1 g.among.0 h.among.0 x y (item_of cell x g.among) (item_of cell y h.among) comm_x comm_y p (in_place x a p g.first g.last refl) (in_place y b p h.first h.last same_place) in
    let one : x ≡ y = same_item cell g.among.0 h.among.0 x y same (item_of cell x g.among) (item_of cell y h.among) in
    let P : Region → Type 0 = λ r. p ≡ r.phys_start + (b - r.virt_start) in
    let Q : Region → Type 0 = λ r. r.virt_start ≤ b in
    let there : x.phys_start + (a - x.virt_start) ≡ x.phys_start + (b - x.virt_start) = subst P (sym one) same_place in
    let first_a : x.virt_start ≤ a = g.first in
    let first_b : x.virt_start ≤ b = subst Q (sym one) h.first in
    omega arith
single_by image cells cell access a b q g h true false sound live comm_x comm_y at_a at_b = absurd (false≢true (ap is_physical (sym at_a ∙ at_b)))
single_by image cells cell access a b q g h false true sound live comm_x comm_y at_a at_b = absurd (true≢false (ap is_physical (sym at_a ∙ at_b)))

pub single_address : (image : Image) (cells : List Live) (id : ℕ) (access : Access) (a b : ℕ) (q : Place) → AreSoundCells image.system (configs_of cells) → IsGrantedTo image cells id access a q → IsGrantedTo image cells id access b q → a ≡ b
single_address image cells id access a b q sound g h =
    let P : ℕ → CellConfig → Type 0 = λ k c. cell_in image cells k ≡ Some c in
    let one : cell_in image cells id ≡ Some g.cell = (let Q : ℕ → Type 0 = λ k. cell_in image cells k ≡ Some g.cell in subst Q g.named (live_cell image cells g.cell sound g.live)) in
    let other : cell_in image cells id ≡ Some h.cell = (let Q : ℕ → Type 0 = λ k. cell_in image cells k ≡ Some h.cell in subst Q h.named (live_cell image cells h.cell sound h.live)) in
    let same : h.cell ≡ g.cell = same_Some h.cell g.cell (sym other ∙ one) in
    let R : CellConfig → Type 0 = λ c. IsGiven c access b q in
    let there : IsGiven g.cell access b q = subst R same h.given in
    single_by image cells g.cell access a b q g.given there (is_comm g.given.region) (is_comm there.region) sound g.live refl refl g.given.given there.given

-- ---- a write that succeeds

further_index : (p : Place) (j k : ℕ) → further p j ≡ further p k → j ≡ k
further_index (Physical p) j k e = let same : p + j ≡ p + k = ap number_of e in omega arith
further_index (Page cell offset) j k e = let same : offset + j ≡ offset + k = ap number_of e in omega arith

-- no two bytes of an access have one place
one_index : (image : Image) (f : Facts) (id at width : ℕ) (place : ℕ → Place) (j k : ℕ) → AreSoundCells image.system (configs_of f.cells) → AreItsPlaces image f.cells id ToWrite at width place → j < width → k < width → place j ≡ place k → j ≡ k
one_index image f id at width place j k sound are lt_j lt_k same =
    ⊎_elim
    (λ (each : (i : ℕ) → i < width → IsGrantedTo image f.cells id ToWrite (at + i) (place i)).
    let Q : Place → Type 0 = IsGrantedTo image f.cells id ToWrite (at + j) in
    let e : at + j ≡ at + k = single_address image f.cells id ToWrite (at + j) (at + k) (place k) sound (subst Q same (each j lt_j)) (each k lt_k) in
    omega arith)
    (λ (by : GivesPlaces image f.cells id ToWrite at width place).
    let first = place_in_cell by.answers.has.cell.id by.region at in
    let low = by.answers.has.first in
    further_index first j k
    (sym (place_in_cell_further by.answers.has.cell.id by.region at j low) ∙ sym (by.given j lt_j) ∙ same ∙ by.given k lt_k ∙ place_in_cell_further by.answers.has.cell.id by.region at k low))
    are

pub write_puts : (image : Image) (f : Facts) (id at width value : ℕ) (place : Place) (byte : ℕ) → IsSound image f → IsByteBy image f.cells id at width value place byte
    → byte_put image f id at width value place ≡ byte
write_puts image f id at width value place byte sound h =
    let k : ℕ = h.index in
    let below : k < width = h.within in
    let some : 0 < width = omega arith in
    ap (λ (b : Place → ℕ). b place) (write_stored image f id at width h.places value sound some h.are)
    ∙ written_over f.byte (listed h.places width) value place
    ∙ over_at h.places width value place (f.byte place) k below h.there (λ j lt is. one_index image f id at width h.places j k sound.cells h.are lt below (sym is ∙ h.there))
    ∙ sym h.is

pub word_puts : (image : Image) (f : Facts) (id at width value n : ℕ) (place : Place) (e : Endpoint) (k : ℕ) → IsSound image f → value < 256 ^ width → IsAnsweredByRegister image f id ToWrite at width n 0 0x10 e → value ≢ e.state
    → IsByteAt (endpoint_word_of e.spec value) place k → byte_put image f id at width value place ≡ value / 256 ^ k % 256
word_puts image f id at width value n place e k sound small by other there =
    let four : width ≡ 4 = by.wide in
    let same : value % 2 ^ 32 ≡ value = value_fits width value four small in
    ap (λ (b : Place → ℕ). b place) (register_stored image f id at width n 0 0x10 value e sound (omega arith) by)
    ∙ ap (λ (v : ℕ). with_endpoint_word_if (endpoint_word_written e 0 0x10 v) f.byte place) same
    ∙ ap (λ (o : Option EndpointWord). with_endpoint_word_if o f.byte place) (state_word e value other)
    ∙ endpoint_word_at (endpoint_word_of e.spec value) f.byte place k there

-- ---- the entry

-- what the act itself writes stands behind the entry, where that is no Commit and changes no page
own_byte : (image : Image) (f : Facts) (entry : Entry) (place : Place) → is_commit entry.act ≡ false → page_write_by image f entry entry.act ≡ None → byte_after image f entry place ≡ byte_written image f entry.cell entry.act place
own_byte image f entry place other none =
    ap (λ (w : Option PageWrite). with_page_write w (with_words (specs_changing f entry.act) (byte_written image f entry.cell entry.act)) place) none
    ∙ ap (λ (specs : List EndpointSpec). with_words specs (byte_written image f entry.cell entry.act) place) (specs_none f entry.act other)

-- an act that puts a byte is a write that succeeds
pub record IsWrite (act : Act) : Type 0 where
  pub width : ℕ
  pub at : ℕ
  pub value : ℕ
  pub is : act ≡ Write width at value true

write_quiet : (image : Image) (f : Facts) (entry : Entry) (act : Act) → IsWrite act → (is_commit act ≡ false) × (page_write_by image f entry act ≡ None)
write_quiet image f entry act w =
    let P : Act → Type 0 = λ a. (is_commit a ≡ false) × (page_write_by image f entry a ≡ None) in
    subst P (sym w.is) (refl, refl)

puts_write : (image : Image) (cells : List Live) (id : ℕ) (act : Act) (place : Place) (byte : ℕ) → Puts image cells id act place byte → (w : IsWrite act) × IsByteBy image cells id w.at w.width w.value place byte
puts_write image cells id (Write width at value true) place byte puts = (record { width = width; at = at; value = value; is = refl }, puts.1)
puts_write image cells id (Write width at value false) place byte puts = absurd (false≢true puts.0)
puts_write image cells id _ place byte puts = absurd puts

put_by : (image : Image) (f : Facts) (entry : Entry) (place : Place) (byte : ℕ) → IsSound image f → Puts image f.cells entry.cell entry.act place byte → byte_after image f entry place ≡ byte
put_by image f entry place byte sound puts =
    let found = puts_write image f.cells entry.cell entry.act place byte puts in
    let w : IsWrite entry.act = found.0 in
    let quiet = write_quiet image f entry entry.act w in
    own_byte image f entry place quiet.0 quiet.1
    ∙ ap (λ (act : Act). byte_written image f entry.cell act place) w.is
    ∙ write_puts image f entry.cell w.at w.width w.value place byte sound found.1

-- so is one that writes a register
pub record PutsBy (image : Image) (f : Facts) (id : ℕ) (act : Act) (offset put : ℕ) (e : Endpoint) : Type 0 where
  pub write : IsWrite act
  pub value : put ≡ write.value
  pub number : ℕ
  pub by : IsAnsweredByRegister image f id ToWrite write.at write.width number 0 offset e

pub register_write : (image : Image) (f : Facts) (id : ℕ) (act : Act) (offset put : ℕ) (e : Endpoint) → PutsRegister image f id act offset put e → PutsBy image f id act offset put e
register_write image f id (Write width at value true) offset put e puts = record { write = record { width = width; at = at; value = value; is = refl }; value = puts.1; number = puts.2.0; by = puts.2.1 }
register_write image f id (Write width at value false) offset put e puts = absurd (false≢true puts.0)
register_write image f id _ offset put e puts = absurd puts

put_word : (image : Image) (f : Facts) (entry : Entry) (spec : EndpointSpec) (value k : ℕ) (place : Place) (e : Endpoint) → IsSound image f → IsSmallAct entry.act → e.spec ≡ spec → PutsRegister image f entry.cell entry.act 0x10 value e → value ≢ e.state
    → IsByteAt (endpoint_word_of spec value) place k → byte_after image f entry place ≡ value / 256 ^ k % 256
put_word image f entry spec value k place e sound small is puts other there =
    let h = register_write image f entry.cell entry.act 0x10 value e puts in
    let w : IsWrite entry.act = h.write in
    let quiet = write_quiet image f entry entry.act w in
    let P : ℕ → Type 0 = λ v. v ≢ e.state in
    let Q : ℕ → EndpointSpec → Type 0 = λ v s. IsByteAt (endpoint_word_of s v) place k in
    let R : EndpointSpec → Type 0 = λ s. IsByteAt (endpoint_word_of s w.value) place k in
    let V : ℕ → Type 0 = λ v. IsByteAt (endpoint_word_of spec v) place k in
    own_byte image f entry place quiet.0 quiet.1
    ∙ ap (λ (act : Act). byte_written image f entry.cell act place) w.is
    ∙ word_puts image f entry.cell w.at w.width w.value h.number place e k sound (subst IsSmallAct w.is small).1 h.by (subst P h.value other) (subst R (sym is) (subst V h.value there))
    ∙ ap (λ (v : ℕ). v / 256 ^ k % 256) (sym h.value)

-- a word that becomes 0
cleared_word : (image : Image) (f : Facts) (entry : Entry) (spec : EndpointSpec) (k p : ℕ) → Contains (specs_changing f entry.act) spec → IsByteAt (endpoint_word_of spec 0) (Physical p) k → byte_after image f entry (Physical p) ≡ 0
cleared_word image f entry spec k p held there =
    physical_kept (page_write_by image f entry entry.act) (with_words (specs_changing f entry.act) (byte_written image f entry.cell entry.act)) p
    ∙ words_put (specs_changing f entry.act) (byte_written image f entry.cell entry.act) spec (Physical p) k held there

word_by : (image : Image) (f : Facts) (entry : Entry) (place : Place) (byte : ℕ) → IsSound image f → IsSmallAct entry.act → IsByteOfWord image f entry place byte → byte_after image f entry place ≡ byte
word_by image f entry place byte sound small h =
    ⊎_elim
    (λ (puts : (e : Endpoint) × (e.spec ≡ h.spec) × PutsRegister image f entry.cell entry.act 0x10 h.value e × (h.value ≢ e.state)).
    put_word image f entry h.spec h.value h.index place puts.0 sound small puts.1 puts.2 puts.3 (h.within, h.there) ∙ sym h.is)
    (λ (cleared : Contains (specs_changing f entry.act) h.spec × (h.value ≡ 0)).
    let p : ℕ = h.spec.table + 4 * h.spec.id + h.index in
    ap (byte_after image f entry) h.there
    ∙ cleared_word image f entry h.spec h.index p cleared.0 (h.within, refl)
    ∙ sym (zero_byte h.index h.within)
    ∙ ap (λ (v : ℕ). v / 256 ^ h.index % 256) (sym cleared.1)
    ∙ sym h.is)
    h.writes

-- an entry that changes a page writes nothing itself
pub quiet_act : (image : Image) (f : Facts) (entry : Entry) (act : Act) (write : PageWrite) → page_write_by image f entry act ≡ Some write → byte_written image f entry.cell act ≡ f.byte
quiet_act image f entry (Write width at value true) write is = absurd (none-some write is)
quiet_act image f entry _ write is = refl

page_puts : (byte : Place → ℕ) (write : PageWrite) (offset : ℕ) → offset < 4096 → with_page_write (Some write) byte (Page write.cell offset) ≡ page_after write.change (λ k. byte (Page write.cell k)) offset
page_puts byte write offset within =
    ap (λ (b : Bool). cond b (page_after write.change (λ k. byte (Page write.cell k)) offset) (byte (Page write.cell offset)))
    (and_from (eqb write.cell write.cell) (nat_lt offset 4096) (same_number write.cell) (lt-ltb offset 4096 within))

pub paged_by : (image : Image) (f : Facts) (entry : Entry) (place : Place) (byte : ℕ) (write : PageWrite) → page_write_by image f entry entry.act ≡ Some write → IsByteOfPage f write place byte → byte_after image f entry place ≡ byte
paged_by image f entry place byte write is h =
    let words : Place → ℕ = with_words (specs_changing f entry.act) f.byte in
    ap (λ (w : Option PageWrite). with_page_write w (with_words (specs_changing f entry.act) (byte_written image f entry.cell entry.act)) place) is
    ∙ ap (λ (b : Place → ℕ). with_page_write (Some write) (with_words (specs_changing f entry.act) b) place) (quiet_act image f entry entry.act write is)
    ∙ ap (with_page_write (Some write) words) h.there
    ∙ page_puts words write h.offset h.within
    ∙ ap (λ (page : ℕ → ℕ). page_after write.change page h.offset)
    (same_function (λ k. words (Page write.cell k)) (λ k. f.byte (Page write.cell k)) (λ k. words_page (specs_changing f entry.act) f.byte write.cell k))
    ∙ sym h.is

pub entry_writes : (image : Image) (form : Form) (before rest : List Entry) (entry : Entry) (place : Place) (byte : ℕ) → IsAdmitted image → IsLegal image form (before ++ entry ∷ rest) → WritesByte image (facts image form before) entry place byte
    → (facts image form (before ++ entry ∷ [])).byte place ≡ byte
entry_writes image form before rest entry place byte admitted legal h =
    let f : Facts = facts image form before in
    let sound = legal_sound image form before admitted (IsLegal_begin image form before (entry ∷ rest) legal) in
    byte_behind image form before entry place
    ∙ ⊎_elim
    (λ (puts : Puts image f.cells entry.cell entry.act place byte). put_by image f entry place byte sound puts)
    (λ more. ⊎_elim
    (λ (word : IsByteOfWord image f entry place byte). word_by image f entry place byte sound (small_at image form before rest entry admitted legal) word)
    (λ paged. paged_by image f entry place byte paged.0 paged.1 paged.2)
    more)
    h

-- ---- a place that it doesn't write

endpoint_word_kept : (byte : Place → ℕ) (place : Place) (o : Option EndpointWord) → ((word : EndpointWord) → o ≡ Some word → IsApart word place) → with_endpoint_word_if o byte place ≡ byte place
endpoint_word_kept byte place None apart = refl
endpoint_word_kept byte place (Some word) apart = endpoint_word_other word byte place (apart word refl)

-- no byte of the value is put there, and no byte of a word
abbrev NoByte : Image → Facts → ℕ → ℕ → ℕ → ℕ → Place → Type 0
NoByte image f id at width value place = (byte : ℕ) → IsByteBy image f.cells id at width value place byte → ⊥

abbrev NoWord : Image → Facts → ℕ → ℕ → ℕ → ℕ → Place → Type 0
NoWord image f id at width value place = (n : ℕ) (e : Endpoint) → IsAnsweredByRegister image f id ToWrite at width n 0 0x10 e → value ≢ e.state → IsApart (endpoint_word_of e.spec value) place

pub write_kept : (image : Image) (f : Facts) (id at width value : ℕ) (place : Place) → IsSound image f → value < 256 ^ width → NoByte image f id at width value place → NoWord image f id at width value place
    → byte_put image f id at width value place ≡ f.byte place
write_kept image f id at width value place sound small none apart =
    ⊎_elim
    (λ (h : IsStored image f id at width).
    ap (λ (b : Place → ℕ). b place) (h.stored value)
    ∙ written_over f.byte (listed h.place width) value place
    ∙ over_other h.place width value place (f.byte place)
    (λ k lt is. none (value / 256 ^ k % 256) (record { index = k; within = lt; places = h.place; are = h.are; there = is; is = refl })))
    (λ more. ⊎_elim
    (λ (h : IsWord image f id at width).
    let same : value % 2 ^ 32 ≡ value = value_fits width value h.by.wide small in
    let R : ℕ → ℕ → Type 0 = λ b o. IsAnsweredByRegister image f id ToWrite at width h.number b o h.endpoint in
    let B : ℕ → Type 0 = λ b. R b h.offset in
    ap (λ (b : Place → ℕ). b place) (h.stored value)
    ∙ ap (λ (v : ℕ). with_endpoint_word_if (endpoint_word_written h.endpoint h.bar h.offset v) f.byte place) same
    ∙ endpoint_word_kept f.byte place (endpoint_word_written h.endpoint h.bar h.offset value)
    (λ word is.
    let put = state_put h.endpoint h.bar h.offset value word is in
    let S : EndpointWord → Type 0 = λ s. IsApart s place in
    subst S (sym put.is) (apart h.number h.endpoint (subst (R 0) put.offset_is (subst B put.bar_is h.by)) put.other)))
    (λ (nowhere : (v : ℕ) → byte_put image f id at width v ≡ f.byte). ap (λ (b : Place → ℕ). b place) (nowhere value))
    more)
    (placed image f id at width sound)

-- no act of the entry puts a byte there, as its own or as one of a word
abbrev NoRegisterWord : Image → Facts → ℕ → Act → Place → Type 0
NoRegisterWord image f id act place = (value : ℕ) (e : Endpoint) → PutsRegister image f id act 0x10 value e → value ≢ e.state → IsApart (endpoint_word_of e.spec value) place

kept_act : (image : Image) (f : Facts) (id : ℕ) (act : Act) (place : Place) → IsSound image f → IsSmallAct act → ((byte : ℕ) → Puts image f.cells id act place byte → ⊥) → NoRegisterWord image f id act place → byte_written image f id act place ≡ f.byte place
kept_act image f id (Write width at value true) place sound small none apart =
    write_kept image f id at width value place sound small.1 (λ byte h. none byte (refl, h)) (λ n e by other. apart value e (refl, refl, (n, by)) other)
kept_act image f id _ place sound small none apart = refl

pub page_keeps : (byte : Place → ℕ) (write : Option PageWrite) (place : Place) → ((w : PageWrite) (offset : ℕ) → write ≡ Some w → offset < 4096 → place ≡ Page w.cell offset → ⊥) → with_page_write write byte place ≡ byte place
page_keeps byte None place none = refl
page_keeps byte (Some write) (Physical p) none = refl
page_keeps byte (Some write) (Page cell offset) none =
    let fails : (eqb cell write.cell && nat_lt offset 4096) ≡ false =
    false_from_ne_true (eqb cell write.cell && nat_lt offset 4096)
    (λ both. let parts = and_parts (eqb cell write.cell) (nat_lt offset 4096) both in none write offset refl (ltb-true offset 4096 parts.1) (ap (λ (c : ℕ). Page c offset) (eqb-true cell write.cell parts.0))) in
    ap (λ (b : Bool). cond b (page_after write.change (λ k. byte (Page cell k)) offset) (byte (Page cell offset))) fails

-- a byte of a word, by its place
word_there : (image : Image) (f : Facts) (entry : Entry) (place : Place) (spec : EndpointSpec) (value k : ℕ) → WritesWord image f entry spec value → IsByteAt (endpoint_word_of spec value) place k → IsByteOfWord image f entry place (value / 256 ^ k % 256)
word_there image f entry place spec value k writes there = record { spec = spec; value = value; writes = writes; index = k; within = there.0; there = there.1; is = refl }

pub entry_keeps : (image : Image) (form : Form) (before rest : List Entry) (entry : Entry) (place : Place) → IsAdmitted image → IsLegal image form (before ++ entry ∷ rest) → ((byte : ℕ) → WritesByte image (facts image form before) entry place byte → ⊥)
    → (facts image form (before ++ entry ∷ [])).byte place ≡ (facts image form before).byte place
entry_keeps image form before rest entry place admitted legal none =
    let f : Facts = facts image form before in
    let sound = legal_sound image form before admitted (IsLegal_begin image form before (entry ∷ rest) legal) in
    let specs : List EndpointSpec = specs_changing f entry.act in
    byte_behind image form before entry place
    ∙ page_keeps (with_words specs (byte_written image f entry.cell entry.act)) (page_write_by image f entry entry.act) place
    (λ w offset is within at. none (page_after w.change (λ k. f.byte (Page w.cell k)) offset) (inr (inr (w, is, record { offset = offset; within = within; there = at; is = refl }))))
    ∙ words_kept specs (byte_written image f entry.cell entry.act) place
    (λ spec held k lt there. none (0 / 256 ^ k % 256) (inr (inl (word_there image f entry place spec 0 k (inr (held, refl)) (lt, there)))))
    ∙ kept_act image f entry.cell entry.act place sound (small_at image form before rest entry admitted legal) (λ byte puts. none byte (inl puts))
    (λ value e puts other k lt there. none (value / 256 ^ k % 256) (inr (inl (word_there image f entry place e.spec value k (inl (e, refl, puts, other)) (lt, there)))))

-- over a stretch that doesn't write it
pub rest_keeps : (image : Image) (form : Form) (before rest : List Entry) (place : Place) → IsAdmitted image → IsLegal image form (before ++ rest) → NoneWrites image form before rest place → (facts image form (before ++ rest)).byte place ≡ (facts image form before).byte place
rest_keeps image form before [] place admitted legal none = ap (λ (es : List Entry). (facts image form es).byte place) (append-nil before)
rest_keeps image form before (entry ∷ rest) place admitted legal none =
    let same : (before ++ entry ∷ []) ++ rest ≡ before ++ entry ∷ rest = append_assoc before (entry ∷ []) rest in
    let P : List Entry → Type 0 = IsLegal image form in
    ap (λ (es : List Entry). (facts image form es).byte place) (sym same)
    ∙ rest_keeps image form (before ++ entry ∷ []) rest place admitted (subst P (sym same) legal) none.1
    ∙ entry_keeps image form before rest entry place admitted legal none.0
