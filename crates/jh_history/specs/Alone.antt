-- That root lives alone: where no program has a hypercall, no legal journal makes another cell.
use Rattle.std.specs.Prelude.{◌≡◌, ℕ, false, List, [], ◌∷◌, ◌++◌, Some, None}
use Rattle.jh_script.specs.declared.image.Image.{Image}
use Rattle.jh_history.specs.declared.form.Form.{Form}
use Rattle.jh_history.specs.declared.entry.Entry.{Entry}
use Rattle.jh_history.specs.Admitted.{HasNoHypercall}
use Rattle.jh_history.specs.Calls.{is_of_call}
use Rattle.jh_history.specs.Due.{due_at, IsLegal}
use Rattle.jh_history.specs.Facts.{Facts}

-- no cell lives besides root, no call is open, and each CPU is root's
pub record IsAlone (image : Image) (facts : Facts) : Type 0 where
  pub cells : facts.cells ≡ []
  pub call : facts.call ≡ None
  pub owners : (cpu : ℕ) → (facts.cpu cpu).owner ≡ image.system.root.id

-- the entry is root's, and none of a call
pub record IsByRoot (image : Image) (entry : Entry) : Type 0 where
  pub cell : entry.cell ≡ image.system.root.id
  pub act : is_of_call entry.act ≡ false

-- a legal journal of a silent image: no program of it has a hypercall
pub record SilentJournal : Type 0 where
  pub image : Image
  pub form : Form
  pub entries : List Entry
  pub silent : HasNoHypercall image
  pub legal : IsLegal image form entries

-- an entry of a legal journal of a silent image, with the entries before it and the rest behind it
pub record SilentMoment : Type 0 where
  pub image : Image
  pub form : Form
  pub before : List Entry
  pub entry : Entry
  pub rest : List Entry
  pub silent : HasNoHypercall image
  pub legal : IsLegal image form (before ++ entry ∷ rest)

-- an entry that is due to a CPU of a silent image, where root lives alone
pub record LoneEntry : Type 0 where
  pub image : Image
  pub facts : Facts
  pub cpu : ℕ
  pub entry : Entry
  pub silent : HasNoHypercall image
  pub alone : IsAlone image facts
  pub due : due_at image facts cpu ≡ Some entry
