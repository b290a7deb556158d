-- What a write of a live cell stores: the bytes of its value at its places, a word of a state table, or nothing.
use Rattle.std.proofs.Common.{◌≡◌, ℕ, zero, suc, ◌+◌, ◌-◌, ◌%◌, ◌^◌, ◌<◌, ◌≤◌, List, length, get_or, Option, Some, refl, sym, ap, subst, ◌∙◌, inl, inr, ⊎_elim, arith}
use Rattle.std.specs.Prelude.{◌⊎◌, Contains, option_and_then}
use Rattle.std.proofs.lemmas.Bool.{cases_lt}
use Rattle.jh_num.specs.declared.address.TheConstants.{ADDRESS_END}
use Rattle.jh_cellcfg.specs.declared.config.CellConfig.{CellConfig}
use Rattle.jh_cellcfg.specs.declared.live.Live.{Live}
use Rattle.jh_cellcfg.specs.declared.region.Region.{Region}
use Rattle.jh_ivshmem.specs.declared.endpoint.Endpoint.{Endpoint}
use Rattle.jh_ivshmem.specs.declared.spec.EndpointWord.{EndpointWord}
use Rattle.jh_ivshmem.specs.Links.{endpoint_at, endpoint_word_written}
use Rattle.jh_script.specs.declared.image.Image.{Image}
use Rattle.jh_history.specs.declared.place.Place.{Place}
use Rattle.jh_history.specs.declared.access.Access.{Access}
use Rattle.jh_history.specs.declared.access.Access.TheVariants.{Write as ToWrite}
use Rattle.jh_history.specs.declared.access.Reach.{Reach}
use Rattle.jh_history.specs.declared.access.Reach.TheVariants.{Window}
use Rattle.jh_history.specs.Places.{written}
use Rattle.jh_history.specs.Access.{place_in_cell, write_of, or_behind, with_endpoint_word_if, endpoint_word_put}
use Rattle.jh_history.specs.Facts.{Facts}
use Rattle.jh_history.specs.Grants.{granted, behind_of, behind_in, reach, devices_of}
use Rattle.jh_history.proofs.Public.{reach_by_within, reach_by_beyond, answer_beyond}
use Rattle.jh_shape.specs.Lives.{configs_of}
use Rattle.jh_history.specs.Sound.{AreSoundCells, IsSound}
use Rattle.jh_laws.specs.Grants.{place_behind}
use Rattle.jh_laws.specs.Held.{IsRootOrLive, IsLeft, IsGrantedTo}
use Rattle.jh_laws.specs.Ends.{IsAnsweredByRegister, IsAnswered, AreItsPlaces, GivesPlaces}
use Rattle.jh_laws.proofs.DevicesLemmas.{same_register}
use Rattle.jh_laws.proofs.ReachedLemmas.{Way, OnMemory, OnRegion, OnWindow, OnRegister, OnNothing, way, places_of_memory, places_of_region, region_places}
use Rattle.jh_laws.proofs.EndsLemmas.{granted_places, picked_place, window_places, register_places}
use Rattle.jh_laws.proofs.ListedLemmas.{listed}

-- ---- a list of places by their index

length_listed : (place : ℕ → Place) (n : ℕ) → length (listed place n) ≡ n
length_listed place zero = refl
length_listed place (suc n) = ap suc (length_listed (λ k. place (k + 1)) n)

get_listed : (place : ℕ → Place) (n k : ℕ) (d : Place) → k < n → get_or (listed place n) k d ≡ place k
get_listed place zero k d lt = absurd (omega arith)
get_listed place (suc n) zero d lt = refl
get_listed place (suc n) (suc k) d lt = let e : k + 1 ≡ suc k = omega arith in get_listed (λ i. place (i + 1)) n k d (omega arith) ∙ ap place e

pub listed_at : (place : ℕ → Place) (n : ℕ) (q : Place) → Contains (listed place n) q → (k : ℕ) × (k < n) × (q ≡ place k)
listed_at place n q held =
    let long : length (listed place n) ≡ n = length_listed place n in
    let within : held.0 < length (listed place n) = held.1 in
    let lt : held.0 < n = omega arith in
    (held.0, lt, sym held.2 ∙ get_listed place n held.0 q lt)

-- ---- what is stored

-- the bytes after a write of the cell, which reaches what it reaches
abbrev pub byte_put : Image → Facts → ℕ → ℕ → ℕ → ℕ → Place → ℕ
byte_put image f id at width value = write_of f.byte (devices_of image f id) (reach image f id ToWrite at width) value

-- where an access has places, something answers it
pub places_answered : (image : Image) (f : Facts) (id at width : ℕ) (place : ℕ → Place) → AreItsPlaces image f.cells id ToWrite at width place → IsAnswered image f id ToWrite at width
places_answered image f id at width place are =
    ⊎_elim (λ each. inl (λ k lt. (place k, each k lt))) (λ (by : GivesPlaces image f.cells id ToWrite at width place). inr (inl (by.region, by.answers))) are

stored_on : (image : Image) (f : Facts) (id at width : ℕ) (place : ℕ → Place) (value : ℕ) → AreSoundCells image.system (configs_of f.cells) → 0 < width → Way image f id ToWrite at width → AreItsPlaces image f.cells id ToWrite at width place
    → byte_put image f id at width value ≡ written f.byte (listed place width) value
stored_on image f id at width place value sound some (OnMemory ps granted is) are =
    ap (λ (r : Reach). write_of f.byte (devices_of image f id) r value) is ∙ ap (λ (qs : List Place). written f.byte qs value) (places_of_memory image f id ToWrite at width ps place sound some granted is are)
stored_on image f id at width place value sound some (OnRegion r answers is) are =
    ap (λ (r : Reach). write_of f.byte (devices_of image f id) r value) is ∙ ap (λ (qs : List Place). written f.byte qs value) (places_of_region image f id ToWrite at width r place sound some answers are)
stored_on image f id at width place value sound some (OnWindow window is) are = absurd (window_places image f.cells id ToWrite at width place window are)
stored_on image f id at width place value sound some (OnRegister n bar offset e register is) are = absurd (register_places image f id ToWrite at width n bar offset e place register are)
stored_on image f id at width place value sound some (OnNothing none is) are = absurd (none (places_answered image f id at width place are))

-- a write stores its value at the places of the access
pub write_stored : (image : Image) (f : Facts) (id at width : ℕ) (place : ℕ → Place) (value : ℕ) → IsSound image f → 0 < width → AreItsPlaces image f.cells id ToWrite at width place
    → byte_put image f id at width value ≡ written f.byte (listed place width) value
write_stored image f id at width place value sound some are = stored_on image f id at width place value sound.cells some (way image f id ToWrite at width sound some) are

-- the word that a register gets by it
pub word_of_register : (image : Image) (f : Facts) (id n bar offset value : ℕ) (e : Endpoint) → endpoint_at id n f.endpoints ≡ Some e → endpoint_word_put (devices_of image f id) (record { device = n; bar = bar; at = offset }) value ≡ endpoint_word_written e bar offset (value % 2 ^ 32)
word_of_register image f id n bar offset value e there = ap (option_and_then (λ (o : Endpoint). endpoint_word_written o bar offset (value % 2 ^ 32))) there

-- a write of a register reaches it
pub register_reached : (image : Image) (f : Facts) (id : ℕ) (access : Access) (at width n bar offset : ℕ) (e : Endpoint) → Way image f id access at width → IsAnsweredByRegister image f id access at width n bar offset e
    → reach image f id access at width ≡ Window (record { device = n; bar = bar; at = offset })
register_reached image f id access at width n bar offset e (OnMemory ps granted is) by = absurd (by.behind.lacks granted)
register_reached image f id access at width n bar offset e (OnRegion r answers is) by = absurd (by.none r answers.has)
register_reached image f id access at width n bar offset e (OnWindow window is) by = absurd (by.outside window.within)
register_reached image f id access at width n bar offset e (OnRegister m other place o register is) by =
    is ∙ same_register image f id access at width m other place n bar offset o e (λ k b a _. Window (record { device = k; bar = b; at = a })) register by
register_reached image f id access at width n bar offset e (OnNothing none is) by = absurd (none (inr (inr (inr (n, bar, offset, e, by)))))

-- and puts that word
pub register_stored : (image : Image) (f : Facts) (id at width n bar offset value : ℕ) (e : Endpoint) → IsSound image f → 0 < width → IsAnsweredByRegister image f id ToWrite at width n bar offset e
    → byte_put image f id at width value ≡ with_endpoint_word_if (endpoint_word_written e bar offset (value % 2 ^ 32)) f.byte
register_stored image f id at width n bar offset value e sound some by =
    ap (λ (r : Reach). write_of f.byte (devices_of image f id) r value) (register_reached image f id ToWrite at width n bar offset e (way image f id ToWrite at width sound some) by)
    ∙ ap (λ (o : Option EndpointWord). with_endpoint_word_if o f.byte) (word_of_register image f id n bar offset value e by.within.is.there)

-- the access has places, at which the value is stored
pub record IsStored (image : Image) (f : Facts) (id at width : ℕ) : Type 0 where
  pub place : ℕ → Place
  pub are : AreItsPlaces image f.cells id ToWrite at width place
  pub stored : (value : ℕ) → byte_put image f id at width value ≡ written f.byte (listed place width) value

-- a register answers it, which may put a word
pub record IsWord (image : Image) (f : Facts) (id at width : ℕ) : Type 0 where
  pub number : ℕ
  pub bar : ℕ
  pub offset : ℕ
  pub endpoint : Endpoint
  pub by : IsAnsweredByRegister image f id ToWrite at width number bar offset endpoint
  pub stored : (value : ℕ) → byte_put image f id at width value ≡ with_endpoint_word_if (endpoint_word_written endpoint bar offset (value % 2 ^ 32)) f.byte

abbrev pub Placed : Image → Facts → ℕ → ℕ → ℕ → Type 0
Placed image f id at width = IsStored image f id at width ⊎ IsWord image f id at width ⊎ ((value : ℕ) → byte_put image f id at width value ≡ f.byte)

stored_at : (image : Image) (f : Facts) (id at width : ℕ) (place : ℕ → Place) → IsSound image f → 0 < width → AreItsPlaces image f.cells id ToWrite at width place → Placed image f id at width
stored_at image f id at width place sound some are = inl (record { place = place; are = are; stored = λ value. write_stored image f id at width place value sound some are })

placed_on : (image : Image) (f : Facts) (id at width : ℕ) → IsSound image f → 0 < width → Way image f id ToWrite at width → Placed image f id at width
placed_on image f id at width sound some (OnMemory ps granted_all is) = stored_at image f id at width (λ k. picked_place (granted image f id ToWrite (at + k))) sound some (inl (granted_places image f id ToWrite at width sound.cells granted_all))
placed_on image f id at width sound some (OnRegion r answers is) = stored_at image f id at width (λ k. place_in_cell id r (at + k)) sound some (region_places image f.cells id ToWrite at width r answers)
placed_on image f id at width sound some (OnWindow window is) = inr (inr (λ value. ap (λ (r : Reach). write_of f.byte (devices_of image f id) r value) is))
placed_on image f id at width sound some (OnRegister n bar offset e register is) =
    inr (inl (record { number = n; bar = bar; offset = offset; endpoint = e; by = register; stored = λ value. register_stored image f id at width n bar offset value e sound some register }))
placed_on image f id at width sound some (OnNothing none is) = inr (inr (λ value. ap (λ (r : Reach). write_of f.byte (devices_of image f id) r value) is))

-- a write of no bytes stores nothing
no_bytes : (image : Image) (f : Facts) (id at value : ℕ) → byte_put image f id at 0 value ≡ f.byte
no_bytes image f id at value = elim (cases_lt ADDRESS_END (at + 0)) [
  | inl beyond ↦
      ap (λ (r : Reach). write_of f.byte (devices_of image f id) (or_behind r (behind_in image f.cells f.endpoints id ToWrite at 0)) value) (reach_by_beyond (granted image f id ToWrite) at 0 beyond)
      ∙ ap (λ (r : Reach). write_of f.byte (devices_of image f id) r value) (answer_beyond (behind_of image f.cells f.endpoints id) (record { access = ToWrite; at = at; width = 0 }) beyond)
  | inr within ↦ ap (λ (r : Reach). write_of f.byte (devices_of image f id) (or_behind r (behind_in image f.cells f.endpoints id ToWrite at 0)) value) (reach_by_within (granted image f id ToWrite) at 0 within)
]

-- the access has places, at which the value is stored, or a register answers it, or nothing is stored
pub placed : (image : Image) (f : Facts) (id at width : ℕ) → IsSound image f → Placed image f id at width
placed image f id at zero sound = inr (inr (λ value. no_bytes image f id at value))
placed image f id at (suc n) sound = let some : 0 < suc n = omega arith in placed_on image f id at (suc n) sound some (way image f id ToWrite at (suc n) sound some)

-- ---- the places are given by the cell's own regions

-- a region of the live cell with the id gives the address the place, which is left to the cell
pub record IsGivenTo (image : Image) (cells : List Live) (id at : ℕ) (place : Place) : Type 0 where
  pub cell : CellConfig
  pub live : IsRootOrLive image cells cell
  pub named : cell.id ≡ id
  pub region : Region
  pub among : Contains cell.memory_regions region
  pub first : region.virt_start ≤ at
  pub last : at < region.virt_start + region.size
  pub given : place ≡ place_behind cell region (at - region.virt_start)
  pub left : IsLeft image cells cell place

pub granted_given : (image : Image) (cells : List Live) (id at : ℕ) (place : Place) → IsGrantedTo image cells id ToWrite at place → IsGivenTo image cells id at place
granted_given image cells id at place h = record {
  cell = h.cell;
  live = h.live;
  named = h.named;
  region = h.given.region;
  among = h.given.among;
  first = h.given.first;
  last = h.given.last;
  given = h.given.given;
  left = h.left;
}

region_given : (image : Image) (cells : List Live) (id at width : ℕ) (place : ℕ → Place) (k : ℕ) → k < width → GivesPlaces image cells id ToWrite at width place → IsGivenTo image cells id (at + k) (place k)
region_given image cells id at width place k lt by =
    let has = by.answers.has in
    let first : by.region.virt_start ≤ at = has.first in
    let last : at + width ≤ by.region.virt_start + by.region.size = has.last in
    let P : Place → Type 0 = IsLeft image cells has.cell in
    record {
      cell = has.cell;
      live = has.live;
      named = has.named;
      region = by.region;
      among = has.among;
      first = omega arith;
      last = omega arith;
      given = by.given k lt;
      left = subst P (sym (by.given k lt)) (has.left k lt);
    }

pub places_given : (image : Image) (cells : List Live) (id at width : ℕ) (place : ℕ → Place) → AreItsPlaces image cells id ToWrite at width place → (k : ℕ) → k < width → IsGivenTo image cells id (at + k) (place k)
places_given image cells id at width place are k lt = ⊎_elim (λ each. granted_given image cells id (at + k) (place k) (each k lt)) (λ by. region_given image cells id at width place k lt by) are
