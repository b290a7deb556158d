-- Which bytes an entry writes, whichever cell makes it.
use Rattle.std.specs.Prelude.{◌≡◌, ◌≢◌, ◌<◌, ◌+◌, ◌*◌, ◌/◌, ◌%◌, ◌^◌, ◌⊎◌, ℕ, List, [], ◌∷◌, ◌++◌, Contains, Some, IsTrue}
use Rattle.jh_cellcfg.specs.declared.config.CellConfig.{CellConfig}
use Rattle.jh_cellcfg.specs.declared.live.Live.{Live}
use Rattle.jh_ivshmem.specs.declared.endpoint.Endpoint.{Endpoint}
use Rattle.jh_ivshmem.specs.declared.spec.EndpointSpec.{EndpointSpec}
use Rattle.jh_script.specs.declared.image.Image.{Image}
use Rattle.jh_history.specs.declared.form.Form.{Form}
use Rattle.jh_history.specs.declared.place.Place.{Place}
use Rattle.jh_history.specs.declared.place.Place.TheVariants.{Physical, Page}
use Rattle.jh_history.specs.declared.access.Access.TheVariants.{Write as ToWrite}
use Rattle.jh_history.specs.declared.comm.PageWrite.{PageWrite}
use Rattle.jh_history.specs.declared.entry.Entry.{Entry}
use Rattle.jh_history.specs.declared.entry.Act.{Act}
use Rattle.jh_history.specs.declared.entry.Act.TheVariants.{Write}
use Rattle.jh_history.specs.Facts.{Facts}
use Rattle.jh_history.specs.History.{cells_after, facts}
use Rattle.jh_history.specs.Pages.{page_after, page_write_by}
use Rattle.jh_history.specs.Endpoints.{specs_changing}
use Rattle.jh_laws.specs.Moments.{AdmittedMoment}
use Rattle.jh_laws.specs.Ends.{AreItsPlaces}
use Rattle.jh_laws.specs.Held.{IsOwnOrLinked}
use Rattle.jh_laws.specs.Vectors.{PutsRegister}

-- the byte is that of the value which the write of the cell puts at the place: byte k, of 256 ^ k, at the place of the
-- k-th byte of the access
pub record IsByteBy (image : Image) (cells : List Live) (id at width value : ℕ) (place : Place) (byte : ℕ) : Type 0 where
  pub index : ℕ
  pub within : index < width
  pub places : ℕ → Place
  pub are : AreItsPlaces image cells id ToWrite at width places
  pub there : place ≡ places index
  pub is : byte ≡ value / 256 ^ index % 256

-- the cell's act puts the byte at the place: it is a write that succeeded
abbrev pub Puts : Image → List Live → ℕ → Act → Place → ℕ → Type 0
Puts image cells id (Write width at value ok) place byte = IsTrue ok × IsByteBy image cells id at width value place byte
Puts image cells id _ place byte = ⊥

-- the hypervisor's change of a page puts the byte at the place, which is one of the page
pub record IsByteOfPage (f : Facts) (write : PageWrite) (place : Place) (byte : ℕ) : Type 0 where
  pub offset : ℕ
  pub within : offset < 4096
  pub there : place ≡ Page write.cell offset
  pub is : byte ≡ page_after write.change (λ k. f.byte (Page write.cell k)) offset

-- the entry writes the value to the word of the endpoint in its state table: its cell writes another value than before to
-- its state register, or a Commit of a create, a start or a destroy makes it 0
abbrev pub WritesWord : Image → Facts → Entry → EndpointSpec → ℕ → Type 0
WritesWord image f entry spec value =
    ((e : Endpoint) × (e.spec ≡ spec) × PutsRegister image f entry.cell entry.act 0x10 value e × (value ≢ e.state))
    ⊎ (Contains (specs_changing f entry.act) spec × (value ≡ 0))

-- the byte at the place is one of the value that the entry writes to a word of a state table
pub record IsByteOfWord (image : Image) (f : Facts) (entry : Entry) (place : Place) (byte : ℕ) : Type 0 where
  pub spec : EndpointSpec
  pub value : ℕ
  pub writes : WritesWord image f entry spec value
  pub index : ℕ
  pub within : index < 4
  pub there : place ≡ Physical (spec.table + 4 * spec.id + index)
  pub is : byte ≡ value / 256 ^ index % 256

-- the entry writes the byte at the place: by its own act, as that of a word of a state table, or by the change of a page that
-- goes with it
abbrev pub WritesByte : Image → Facts → Entry → Place → ℕ → Type 0
WritesByte image f entry place byte =
    Puts image f.cells entry.cell entry.act place byte
    ⊎ IsByteOfWord image f entry place byte
    ⊎ ((write : PageWrite) × (page_write_by image f entry entry.act ≡ Some write) × IsByteOfPage f write place byte)

-- the hypervisor writes by the entry into the page of the cell
abbrev pub WritesPageOf : Image → Facts → Entry → ℕ → Type 0
WritesPageOf image f entry cell = (write : PageWrite) × (page_write_by image f entry entry.act ≡ Some write) × (write.cell ≡ cell)

-- ---- what a cell holds for itself

-- the entry writes a word of a state table that has the place: that of a device of the holding cell itself, or of a cell
-- with a device linked to one of its devices, of which its region of that number is a section, and which lives before the
-- entry or behind it, or of root, whose state table a cell may take
pub record WritesWordThere (image : Image) (f : Facts) (entry : Entry) (holder : CellConfig) (number place : ℕ) : Type 0 where
  pub spec : EndpointSpec
  pub value : ℕ
  pub writes : WritesWord image f entry spec value
  pub index : ℕ
  pub within : index < 4
  pub there : place ≡ spec.table + 4 * spec.id + index
  pub owner : IsOwnOrLinked f.cells holder number spec.cell ⊎ IsOwnOrLinked (cells_after f entry) holder number spec.cell ⊎ (spec.cell ≡ image.system.root.id)

-- the entry may change what the holding cell has at the place, in its region of that number: it is an entry of the cell
-- itself, or of a cell with a device linked to one of its devices, of which that region is a section, or writes a word of
-- a state table there
abbrev pub MayChangeHeld : Image → Facts → Entry → CellConfig → ℕ → ℕ → Type 0
MayChangeHeld image f entry holder number place = IsOwnOrLinked f.cells holder number entry.cell ⊎ WritesWordThere image f entry holder number place

-- ---- stretches of a journal

-- no entry of the rest writes the place, each taken where those before it have led
abbrev pub NoneWrites : Image → Form → List Entry → List Entry → Place → Type 0
NoneWrites image form before [] place = Unit {0}
NoneWrites image form before (entry ∷ rest) place =
    ((byte : ℕ) → WritesByte image (facts image form before) entry place byte → ⊥) × NoneWrites image form (before ++ entry ∷ []) rest place

-- no entry behind the entry writes the place
abbrev pub NoneWritesBehind : AdmittedMoment → Place → Type 0
NoneWritesBehind m place = NoneWrites m.image m.form (m.before ++ m.entry ∷ []) m.rest place
