-- What the slow plain program keeps.
use Rattle.std.proofs.Common.{◌≡◌, ℕ, ◌+◌, ◌-◌, ◌/◌, ◌%◌, ◌<◌, Bool, true, false, refl, List, [], ◌∷◌, ◌++◌, Some, ap, sym, ◌∙◌}
use Rattle.std.specs.Prelude.{slice_get}
use Rattle.std.proofs.lemmas.Bool.{both_ways}
use Rattle.std.proofs.lemmas.List.Sums.{fold-append}
use Rattle.jh_script.specs.declared.image.Image.{Image}
use Rattle.jh_history.specs.declared.place.Place.{Place}
use Rattle.jh_history.specs.declared.written.WrittenByte.{WrittenByte}
use Rattle.jh_history.specs.declared.entry.Entry.{Entry}
use Rattle.jh_history.specs.declared.access.Reach.{Reach}
use Rattle.jh_history.specs.declared.access.Reach.TheVariants.{Memory, Subpage, Config, Window, Nothing}
use Rattle.jh_history.specs.declared.access.Wanted.{Wanted}
use Rattle.jh_history.specs.Places.{further, places_in_row, written, overlaid}
use Rattle.jh_cellcfg.specs.declared.config.PciDevice.{PciDevice}
use Rattle.jh_cellcfg.specs.declared.live.Live.{Live}
use Rattle.jh_ivshmem.specs.declared.endpoint.Endpoint.{Endpoint}
use Rattle.jh_history.specs.Access.{with_endpoint_word_if, endpoint_word_of_reach, write_of}
use Rattle.jh_history.specs.Grants.{devices_of, reach_in}
use Rattle.jh_history.specs.LiveView.{GrantsView}
use Rattle.jh_history.specs.Devices.{Devices, list_in, devices_in}
use Rattle.jh_history.specs.Facts.{Facts}
use Rattle.jh_history.specs.Bytes.{loaded_byte, byte_after}
use Rattle.jh_history.specs.Cpus.{cpu_after}
use Rattle.jh_history.specs.Endpoints.{endpoints_put, endpoints_after}
use Rattle.jh_history.specs.History.{after, cells_after, call_after}
use Rattle.jh_history.specs.Wants.{reach_of}
use Rattle.jh_history.specs.Private.PlainView.{PlainView, overwritten, last_byte, Represents}
use Rattle.std.proofs.lemmas.List.{append-nil}
use Rattle.jh_history.proofs.PlaceLemmas.{row_next, written_over}

-- one byte more
pub last_byte_push : (image : Image) (bytes : List WrittenByte) (one : WrittenByte) (q : Place) → last_byte image (bytes ++ one ∷ []) q ≡ overwritten q (last_byte image bytes q) one
last_byte_push image bytes one q = fold-append (overwritten q) (loaded_byte image q) bytes (one ∷ [])

-- one byte of a write
pub over_more : (image : Image) (old new : List WrittenByte) (p at : Place) (byte k n rest : ℕ) (places : List Place) (q : Place) → k < n → at ≡ further p k → byte ≡ rest % 256 → new ≡ old ++ record { place = at; byte = byte } ∷ []
    → overlaid (places_in_row (further p (k + 1)) (n - (k + 1)) ++ places) (rest / 256) q (last_byte image new q) ≡ overlaid (places_in_row (further p k) (n - k) ++ places) rest q (last_byte image old q)
over_more image old new p at byte k n rest places q lt is_at is_byte is =
    rw (is, last_byte_push, is_at, is_byte) (ap (λ (ps : List Place). overlaid (ps ++ places) rest q (last_byte image old q)) (sym (row_next p k n lt)))

-- the two rows of a write
pub over_rows : (image : Image) (old middle new : List WrittenByte) (low high places : List Place) (value rest last : ℕ) (q : Place) → places ≡ low ++ high
    → ((ps : List Place) → overlaid ps rest q (last_byte image middle q) ≡ overlaid (low ++ ps) value q (last_byte image old q))
    → ((ps : List Place) → overlaid ps last q (last_byte image new q) ≡ overlaid (high ++ ps) rest q (last_byte image middle q))
    → last_byte image new q ≡ overlaid places value q (last_byte image old q)
over_rows image old middle new low high places value rest last q is first second =
    second [] ∙ first (high ++ []) ∙ ap (λ (ps : List Place). overlaid (low ++ ps) value q (last_byte image old q)) (append-nil high) ∙ ap (λ (ps : List Place). overlaid ps value q (last_byte image old q)) (sym is)

abbrev pub is_device : Reach → Bool
is_device (Config bytes) = true
is_device (Window register) = true
is_device found = false

no_put : (devices : Devices) (found : Reach) (value : ℕ) → is_device found ≡ false → devices.endpoints ≡ endpoints_put devices found value
no_put devices (Memory places) value is = refl
no_put devices (Subpage places) value is = refl
no_put devices (Config bytes) value is = absurd (both_ways true is refl)
no_put devices (Window register) value is = absurd (both_ways true is refl)
no_put devices Nothing value is = refl

-- a write where it reaches memory, or a subpage region
written_at : (i : Image) (f : Facts) (places : List Place) (value : ℕ) (q : Place) (old : PlainView) → Represents old i f → overlaid places value q (last_byte i old.bytes q) ≡ written f.byte places value q
written_at i f places value q old stands = ap (overlaid places value q) (sym (stands.bytes q)) ∙ sym (written_over f.byte places value q)

pub kept_write : (i : Image) (f : Facts) (cell : ℕ) (wanted : Wanted) (found : Reach) (places : List Place) (value : ℕ) (q : Place) (old : PlainView) → Represents old i f → found ≡ reach_of i f cell wanted → found ≡ Memory places
    → overlaid places value q (last_byte i old.bytes q) ≡ write_of f.byte (devices_of i f cell) (reach_of i f cell wanted) value q
kept_write i f cell wanted found places value q old stands is_found is =
    written_at i f places value q old stands ∙ ap (λ (r : Reach). write_of f.byte (devices_of i f cell) r value q) (sym is ∙ is_found)

pub kept_write_subpage : (i : Image) (f : Facts) (cell : ℕ) (wanted : Wanted) (found : Reach) (places : List Place) (value : ℕ) (q : Place) (old : PlainView) → Represents old i f → found ≡ reach_of i f cell wanted → found ≡ Subpage places
    → overlaid places value q (last_byte i old.bytes q) ≡ write_of f.byte (devices_of i f cell) (reach_of i f cell wanted) value q
kept_write_subpage i f cell wanted found places value q old stands is_found is =
    written_at i f places value q old stands ∙ ap (λ (r : Reach). write_of f.byte (devices_of i f cell) r value q) (sym is ∙ is_found)

-- what an access reaches, by the image and the cells that are kept
pub reach_kept : (i image : Image) (f : Facts) (cells : List Live) (endpoints : List Endpoint) (cell : ℕ) (wanted : Wanted) (found : Reach) → image ≡ i → cells ≡ f.cells → endpoints ≡ f.endpoints
    → found ≡ reach_in image cells endpoints cell wanted.access wanted.at wanted.width → found ≡ reach_of i f cell wanted
reach_kept i image f cells endpoints cell wanted found same lives ends is =
    is
    ∙ ap (λ (x : Image). reach_in x cells endpoints cell wanted.access wanted.at wanted.width) same
    ∙ ap (λ (l : List Live). reach_in i l endpoints cell wanted.access wanted.at wanted.width) lives
    ∙ ap (λ (es : List Endpoint). reach_in i f.cells es cell wanted.access wanted.at wanted.width) ends

-- what was found by what is kept is what the access reaches
pub reach_seen : {held : PlainView} (old : PlainView) (grants : GrantsView) (i : Image) (f : Facts) (cell : ℕ) (wanted : Wanted) (found : Reach) → held ≡ old → grants ≡ record { image = old.image; lives = old.cells } → Represents old i f
    → found ≡ reach_in grants.image grants.lives held.endpoints cell wanted.access wanted.at wanted.width → found ≡ reach_of i f cell wanted
reach_seen {held} old grants i f cell wanted found same given h is =
    reach_kept i grants.image f grants.lives held.endpoints cell wanted found
    (ap (λ (g : GrantsView). g.image) given ∙ sym h.same) (ap (λ (g : GrantsView). g.lives) given ∙ sym h.cells) (ap (λ (p : PlainView). p.endpoints) same ∙ sym h.endpoints) is

-- a write where it reaches memory leaves the endpoints, and so does one that reaches nothing
pub others_put : (i : Image) (f : Facts) (cell : ℕ) (wanted : Wanted) (found : Reach) (value : ℕ) → found ≡ reach_of i f cell wanted → is_device found ≡ false
    → f.endpoints ≡ endpoints_put (devices_of i f cell) (reach_of i f cell wanted) value
others_put i f cell wanted found value is other = no_put (devices_of i f cell) found value other ∙ ap (λ (r : Reach). endpoints_put (devices_of i f cell) r value) is

-- the devices of a cell, by what is kept
abbrev devices_by : ℕ → List PciDevice → List Endpoint → Devices
devices_by cell list endpoints = record { cell = cell; list = list; endpoints = endpoints }

pub devices_kept : (i image : Image) (lives cells : List Live) (ends endpoints : List Endpoint) (cell : ℕ) (list : List PciDevice) → image ≡ i → cells ≡ lives → endpoints ≡ ends
    → list ≡ list_in image cells cell → devices_by cell list endpoints ≡ devices_in i lives ends cell
devices_kept i image lives cells ends endpoints cell list same alive there is =
    ap (λ (l : List PciDevice). devices_by cell l endpoints) is
    ∙ ap (λ (x : Image). devices_in x cells endpoints cell) same
    ∙ ap (λ (l : List Live). devices_in i l endpoints cell) alive
    ∙ ap (λ (es : List Endpoint). devices_in i lives es cell) there

-- a write where it reaches a device
pub device_write : (byte : Place → ℕ) (devices : Devices) (found : Reach) (value : ℕ) (q : Place) → is_device found ≡ true → with_endpoint_word_if (endpoint_word_of_reach devices found value) byte q ≡ write_of byte devices found value q
device_write byte devices (Memory places) value q is = absurd (both_ways true (sym is) refl)
device_write byte devices (Subpage places) value q is = absurd (both_ways true (sym is) refl)
device_write byte devices (Config bytes) value q is = refl
device_write byte devices (Window register) value q is = refl
device_write byte devices Nothing value q is = absurd (both_ways true (sym is) refl)

-- one entry more
pub Stands_after : (i : Image) (f : Facts) (entry : Entry) (old new : PlainView) → Represents old i f → new.image ≡ old.image → new.form ≡ old.form
    → new.cells ≡ cells_after f entry → new.endpoints ≡ endpoints_after i f entry → new.call ≡ call_after i f entry
    → ((k : ℕ) → k < 16 → slice_get new.cpus k ≡ Some (cpu_after i f entry k))
    → ((q : Place) → last_byte i new.bytes q ≡ byte_after i f entry q)
    → Represents new i (after i f entry)
unfolding after
Stands_after i f entry old new stands same form cells endpoints call cpus bytes = record {
  same = stands.same ∙ sym same;
  form = stands.form ∙ sym form;
  cells = sym cells;
  endpoints = sym endpoints;
  call = sym call;
  cpus = cpus;
  bytes = λ q. sym (bytes q);
}
