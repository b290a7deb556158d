-- What the slow plain program keeps of a journal: its form, CPUs, the live cells, the endpoints of their devices, the open call,
-- and the bytes that were written.
use Rattle.std.specs.Prelude.{◌≡◌, ℕ, ◌+◌, ◌^◌, ◌<◌, ◌≤◌, ◌==◌, ◌++◌, List, length, fold, if◌then◌else◌, Option, Some, IfSome}
use Rattle.jh_num.specs.Memory.{stored}
use Rattle.jh_cellcfg.specs.declared.config.CellConfig.{CellConfig}
use Rattle.jh_cellcfg.specs.declared.live.Live.{Live}
use Rattle.jh_cpu.specs.declared.cpu.Cpu.{Cpu}
use Rattle.jh_ivshmem.specs.declared.endpoint.Endpoint.{Endpoint}
use Rattle.jh_ivshmem.specs.declared.spec.EndpointWord.{EndpointWord}
use Rattle.jh_script.specs.declared.image.Image.{Image}
use Rattle.jh_history.specs.declared.access.Reach.{Reach}
use Rattle.jh_history.specs.declared.call.OpenCall.{OpenCall}
use Rattle.jh_history.specs.declared.entry.Act.{Act}
use Rattle.jh_history.specs.declared.entry.Entry.{Entry}
use Rattle.jh_history.specs.declared.form.Form.{Form}
use Rattle.jh_history.specs.declared.place.Place.{Place}
use Rattle.jh_history.specs.declared.place.Place.TheVariants.{Physical, Page}
use Rattle.jh_history.specs.declared.written.WrittenByte.{WrittenByte}
use Rattle.jh_history.specs.Places.{is_same, overlaid}
use Rattle.jh_history.specs.declared.access.Access.TheVariants.{Read}
use Rattle.jh_history.specs.Access.{byte_read, endpoint_word_of_reach}
use Rattle.jh_history.specs.Grants.{granted_in}
use Rattle.jh_history.specs.Devices.{devices_in}
use Rattle.jh_history.specs.Calls.{call_by}
use Rattle.jh_history.specs.Cpus.{ListsCpus}
use Rattle.jh_history.specs.Endpoints.{change_by, changing_by, specs_changing, with_words, IsNextOf, MayChange}
use Rattle.jh_history.specs.Facts.{Facts}
use Rattle.jh_history.specs.Bytes.{loaded_byte}
use Rattle.jh_history.specs.History.{coming_of}
use Rattle.jh_history.specs.Admitted.{IsAdmitted, IsWellFormedAct}
use Rattle.jh_shape.specs.Lives.{configs_of}
use Rattle.jh_history.specs.Due.{due_at}
use Rattle.jh_history.specs.Sound.{AreSoundCells, IsSound}

-- the image, and what the slow plain program keeps beside it of a journal
pub record PlainView : Type 0 where
  pub image : Image
  pub form : Form
  pub cpus : List Cpu
  pub cells : List Live
  pub endpoints : List Endpoint
  pub call : Option OpenCall
  pub bytes : List WrittenByte

-- the byte of the place, where it was b before this one was written
abbrev pub overwritten : Place → ℕ → WrittenByte → ℕ
overwritten q b one = if is_same q one.place then one.byte else b

-- the byte of the place after those that were written, the newest last
abbrev pub last_byte : Image → List WrittenByte → Place → ℕ
last_byte image bytes q = fold (overwritten q) (loaded_byte image q) bytes

-- the byte that root reads at the address, where it may
abbrev pub root_byte : PlainView → ℕ → Option ℕ
root_byte plain at = byte_read (last_byte plain.image plain.bytes) (granted_in plain.image plain.cells plain.image.system.root.id Read) at

-- the bytes, with the list's from the offset on in the page of the cell
abbrev pub put_in_page : ℕ → ℕ → List ℕ → (Place → ℕ) → Place → ℕ
put_in_page cell at bytes byte (Physical p) = byte (Physical p)
put_in_page cell at bytes byte (Page other offset) =
    if other == cell then stored (λ k. byte (Page other k)) at bytes offset else byte (Page other offset)

-- the image is admitted, its root and the cells are sound, and these are few
pub record HasSoundCells (image : Image) (cells : List Live) : Type 0 where
  pub admitted : IsAdmitted image
  pub sound : AreSoundCells image.system (configs_of cells)
  pub few : length cells ≤ 15

-- what is kept stands for these facts of the image
pub record Represents (plain : PlainView) (image : Image) (facts : Facts) : Type 0 where
  pub same : image ≡ plain.image
  pub form : facts.form ≡ plain.form
  pub cells : facts.cells ≡ plain.cells
  pub endpoints : facts.endpoints ≡ plain.endpoints
  pub call : facts.call ≡ plain.call
  pub cpus : ListsCpus plain.cpus facts.cpu
  pub bytes : (q : Place) → facts.byte q ≡ last_byte image plain.bytes q

-- the bytes are these of the facts, whatever facts the old one stands for
abbrev pub HasBytes : PlainView → PlainView → (Image → Facts → Place → ℕ) → Type 0
HasBytes old new byte = (i : Image) (f : Facts) → Represents old i f → (q : Place) → last_byte i new.bytes q ≡ byte i f q

-- the words that the act clears in state tables are written over the bytes of the old one, by its cells and its call
abbrev pub HasWritten : PlainView → PlainView → Act → Type 0
HasWritten old new act =
    (i : Image) (f : Facts) → f.cells ≡ old.cells → f.call ≡ old.call → (q : Place) → last_byte i new.bytes q ≡ with_words (specs_changing f act) (last_byte i old.bytes) q

-- with this configuration as the one that a create reads, the open call goes on by the entry as it has to
abbrev pub IsComing : PlainView → Entry → Option CellConfig → Type 0
IsComing plain entry coming =
    (i : Image) (f : Facts) → Represents plain i f → (lives : List Live) → call_by lives coming f.call entry entry.act ≡ call_by lives (coming_of i f) f.call entry entry.act

-- the row of places has the lowest bytes of the value, and the rest of it is left for the places behind
abbrev pub IsRest : List WrittenByte → List WrittenByte → List Place → ℕ → ℕ → Type 0
IsRest old new row value rest =
    (image : Image) (places : List Place) (q : Place) → overlaid places rest q (last_byte image new q) ≡ overlaid (row ++ places) value q (last_byte image old q)

-- all but the bytes and the endpoints stay
pub record IsSameBut (old new : PlainView) : Type 0 where
  pub image : new.image ≡ old.image
  pub form : new.form ≡ old.form
  pub cpus : new.cpus ≡ old.cpus
  pub cells : new.cells ≡ old.cells
  pub call : new.call ≡ old.call

-- the entry is due in a sound state of the image with these cells and this call
pub record IsDueBeside (image : Image) (lives : List Live) (open_call : Option OpenCall) (entry : Entry) : Type 0 where
  pub facts : Facts
  pub sound : IsSound image facts
  pub due : due_at image facts entry.cpu ≡ Some entry
  pub cells : facts.cells ≡ lives
  pub call : facts.call ≡ open_call

-- each word of a state table that a write of a cell writes ends below 2^64
abbrev pub HasWords : PlainView → Type 0
HasWords plain =
    (id value : ℕ) (found : Reach) → IfSome (endpoint_word_of_reach (devices_in plain.image plain.cells plain.endpoints id) found value) (λ (word : EndpointWord). word.place + 4 < 2 ^ 64)

-- the devices of the cell that a Commit is about may be changed
abbrev pub MayCommit : PlainView → Act → Type 0
MayCommit plain act = IfSome (changing_by plain.cells plain.call act) (MayChange (change_by plain.call) plain.endpoints)

-- what is kept of devices lets the entry be followed
pub record MayBeFollowed (plain : PlainView) (entry : Entry) : Type 0 where
  pub words : HasWords plain
  pub commit : MayCommit plain entry.act
  pub next : IsNextOf entry.cell plain.endpoints entry.act

-- the entry's act, where it is a read or a write, has at most 8 bytes
abbrev pub IsWellFormedEntry : Entry → Type 0
IsWellFormedEntry entry = IsWellFormedAct entry.act
