-- Legal journals of admitted images, which cells live and which call is open after entries of one, and stretches of them.
use Rattle.std.specs.Prelude.{◌≡◌, ◌≢◌, ℕ, false, List, [], ◌∷◌, ◌++◌, All, Option}
use Rattle.jh_cellcfg.specs.declared.config.CellConfig.{CellConfig}
use Rattle.jh_cpu.specs.declared.cpu.Cpu.{Cpu}
use Rattle.jh_call.specs.declared.call.Call.{Call}
use Rattle.jh_script.specs.declared.image.Image.{Image}
use Rattle.jh_history.specs.declared.form.Form.{Form}
use Rattle.jh_history.specs.declared.call.OpenCall.{OpenCall}
use Rattle.jh_history.specs.declared.entry.Entry.{Entry}
use Rattle.jh_history.specs.declared.place.Place.{Place}
use Rattle.jh_history.specs.Facts.{Facts}
use Rattle.jh_history.specs.History.{facts}
use Rattle.jh_shape.specs.Lives.{configs_of}
use Rattle.jh_history.specs.Due.{IsLegal}
use Rattle.jh_history.specs.Admitted.{IsAdmitted}
use Rattle.jh_history.specs.Commits.{is_commit}
use Rattle.jh_laws.specs.Ways.{is_finish, begun_call}

-- a legal journal of an image that a board may be opened with
pub record AdmittedJournal : Type 0 where
  pub image : Image
  pub form : Form
  pub entries : List Entry
  pub admitted : IsAdmitted image
  pub legal : IsLegal image form entries

-- an entry of a legal journal of an admitted image, with the entries before it and the rest behind it
pub record AdmittedMoment : Type 0 where
  pub image : Image
  pub form : Form
  pub before : List Entry
  pub entry : Entry
  pub rest : List Entry
  pub admitted : IsAdmitted image
  pub legal : IsLegal image form (before ++ entry ∷ rest)

-- two entries of a legal journal of an admitted image, with the entries before the first, those between the two and the
-- rest behind the last
pub record AdmittedSpan : Type 0 where
  pub image : Image
  pub form : Form
  pub before : List Entry
  pub first : Entry
  pub between : List Entry
  pub last : Entry
  pub rest : List Entry
  pub admitted : IsAdmitted image
  pub legal : IsLegal image form (before ++ first ∷ (between ++ last ∷ rest))

-- the facts just before the first entry
abbrev pub facts_before_first : AdmittedSpan → Facts
facts_before_first s = facts s.image s.form s.before

-- the facts just behind the first entry
abbrev pub facts_behind_first : AdmittedSpan → Facts
facts_behind_first s = facts s.image s.form (s.before ++ s.first ∷ [])

-- the facts just before the last entry
abbrev pub facts_before_last : AdmittedSpan → Facts
facts_before_last s = facts s.image s.form (s.before ++ s.first ∷ s.between)

-- the facts just behind the last entry
abbrev pub facts_behind_last : AdmittedSpan → Facts
facts_behind_last s = facts s.image s.form (s.before ++ s.first ∷ (s.between ++ s.last ∷ []))

-- the facts after the journal
abbrev pub facts_of : AdmittedJournal → Facts
facts_of j = facts j.image j.form j.entries

-- the facts just before the entry
abbrev pub facts_before : AdmittedMoment → Facts
facts_before m = facts m.image m.form m.before

-- the facts just behind the entry
abbrev pub facts_behind : AdmittedMoment → Facts
facts_behind m = facts m.image m.form (m.before ++ m.entry ∷ [])

-- the facts after the whole journal: the entries before the entry, the entry and the rest
abbrev pub facts_at_end : AdmittedMoment → Facts
facts_at_end m = facts m.image m.form (m.before ++ m.entry ∷ m.rest)

-- the byte at the place is another just behind the entry than it was just before
abbrev pub ByteChanges : AdmittedMoment → Place → Type 0
ByteChanges m place = (facts_behind m).byte place ≢ (facts_before m).byte place

-- the configurations of the cells that live besides root after the journal, in order of creation
abbrev pub live_configs : AdmittedJournal → List CellConfig
live_configs j = configs_of (facts_of j).cells

-- the configurations of the cells that live besides root just before the entry, in order of creation
abbrev pub cells_before : AdmittedMoment → List CellConfig
cells_before m = configs_of (facts_before m).cells

-- the configurations of the cells that live besides root just behind the entry, in order of creation
abbrev pub cells_behind : AdmittedMoment → List CellConfig
cells_behind m = configs_of (facts_behind m).cells

-- the id of the cell that the CPU belongs to after the journal
abbrev pub owner_of : AdmittedJournal → ℕ → ℕ
owner_of j cpu = ((facts_of j).cpu cpu).owner

-- the call that is open after the journal, with its caller and its phase
abbrev pub open_call_of : AdmittedJournal → Option OpenCall
open_call_of j = (facts_of j).call

-- the state of the CPU just before the entry
abbrev pub state_before : AdmittedMoment → ℕ → Cpu
state_before m cpu = (facts_before m).cpu cpu

-- the state of the CPU just behind the entry
abbrev pub state_behind : AdmittedMoment → ℕ → Cpu
state_behind m cpu = (facts_behind m).cpu cpu

-- ---- calls

-- the call that was begun before the entry, and hasn't ended
abbrev pub call_before : AdmittedMoment → Option Call
call_before m = begun_call m.before

-- the call that was begun before the first entry, and hasn't ended
abbrev pub call_before_first : AdmittedSpan → Option Call
call_before_first s = begun_call s.before

-- the call that was begun up to the first entry, by it or before it, and hasn't ended
abbrev pub call_behind_first : AdmittedSpan → Option Call
call_behind_first s = begun_call (s.before ++ s.first ∷ [])

-- ---- what is between

-- the last entry is the next that the CPU of the first makes: it is of that CPU, and none between is
pub record IsCpusNext (s : AdmittedSpan) : Type 0 where
  pub others : All (λ (e : Entry). e.cpu ≢ s.first.cpu) s.between
  pub own : s.last.cpu ≡ s.first.cpu

-- no entry between is the end of a call
abbrev pub NoneFinishesBetween : AdmittedSpan → Type 0
NoneFinishesBetween s = All (λ (e : Entry). is_finish e.act ≡ false) s.between

-- no entry between is a Commit
abbrev pub NoneCommitsBetween : AdmittedSpan → Type 0
NoneCommitsBetween s = All (λ (e : Entry). is_commit e.act ≡ false) s.between
