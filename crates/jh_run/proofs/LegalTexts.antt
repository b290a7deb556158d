-- The entries of a legal journal are ones that a text may hold.
use Rattle.std.proofs.Common.{◌≡◌, ℕ, ◌^◌, ◌<◌, ◌≤◌, List, [], ◌∷◌, ◌++◌, length, slice_get, Some, refl, sym, subst, append_assoc}
use Rattle.std.specs.Prelude.{All}
use Rattle.std.specs.List.{AllByRecursion}
use Rattle.std.proofs.lemmas.Option.{slice_get_within, get_or_from_slice_get}
use Rattle.jh_cellcfg.specs.declared.config.CellConfig.{CellConfig}
use Rattle.jh_cellcfg.specs.Cells.{name_of}
use Rattle.jh_script.specs.declared.image.Image.{Image}
use Rattle.jh_script.specs.declared.image.Program.{Program}
use Rattle.jh_script.specs.declared.op.Op.{Op}
use Rattle.jh_script.specs.declared.op.Op.TheVariants.{Read as ReadOp, Write as WriteOp, Fetch as FetchOp, Await as AwaitOp, Hvc as HvcOp}
use Rattle.jh_script.specs.Operations.{IsWellFormed}
use Rattle.jh_history.specs.declared.form.Form.{Form}
use Rattle.jh_history.specs.declared.entry.Entry.{Entry}
use Rattle.jh_history.specs.declared.entry.Act.{Act}
use Rattle.jh_history.specs.declared.entry.Act.TheVariants.{Read, Write, Fetch, Await, Irq, Hvc, Begin, Stop, Decide, Settle, Commit, Note, Noted, Finish}
use Rattle.jh_history.specs.Admitted.{IsAdmitted}
use Rattle.jh_history.specs.Due.{IsLegal}
use Rattle.jh_history.specs.Lives.{program_ops}
use Rattle.jh_laws.specs.Held.{IsRootOrLive}
use Rattle.jh_laws.specs.Moments.{AdmittedMoment, facts_before, state_before}
use Rattle.jh_laws.specs.Operations.{op_of_act}
use Rattle.jh_laws.specs.Typed.{IsTypedImage, HasTypedAct}
use Rattle.jh_text.specs.declared.fault.JournalFault.{JournalFault}
use Rattle.jh_text.specs.declared.fault.JournalFault.TheVariants.{Line, TooLong, NoMemory}
use Rattle.jh_text.specs.Faults.{IsFault, IsFirstBadLine, IsJournalText, IsTooLong, max_entries}
use Rattle.jh_text.specs.Ranges.{IsReadable, IsReadableAct}
use Rattle.jh_text.specs.Text.{journal_text}
use Rattle.jh_run.specs.Private.Typed.{IsTypedOp, HasTypedNumbers}
use Rattle.jh_history.proofs.Public.{program_ops_all}

-- the laws of journals that this stands on
pub record JournalLaws : Type 0 where
  pub cpu : (m : AdmittedMoment) → m.entry.cpu < 16
  pub cell : (m : AdmittedMoment) → IsTypedImage m.image → m.entry.cell < 2 ^ 32
  pub told : (m : AdmittedMoment) → IsTypedImage m.image → HasTypedAct m.entry.act
  pub operation : (m : AdmittedMoment) (op : Op) → op_of_act m.entry.act ≡ Some op
      → (cell : CellConfig) × IsRootOrLive m.image (facts_before m).cells cell × (cell.id ≡ m.entry.cell) × (slice_get (program_ops m.image (name_of cell) m.entry.cpu) (state_before m m.entry.cpu).position ≡ Some op)

-- what is printed of readable entries is a text, as it is stated
abbrev pub PrintedLaw : Type 0
PrintedLaw = (form : Form) (entries : List Entry) → AllByRecursion IsReadable entries → length entries ≤ max_entries → IsJournalText (journal_text form entries) form entries

-- ---- the operations of programs

got_all : {X : Type 0} (P : X → Type 0) (xs : List X) (i : ℕ) (x : X) → All P xs → slice_get xs i ≡ Some x → P x
got_all P xs i x all e = subst P (get_or_from_slice_get xs i x x e) (all i x (slice_get_within xs i x e))

-- the operation that the entry makes is within its limits, and its numbers are below the ends of their types
record IsFitOp (op : Op) : Type 0 where
  well_formed : IsWellFormed op
  typed : IsTypedOp op

fit_op : (laws : JournalLaws) (m : AdmittedMoment) (op : Op) → HasTypedNumbers m.image → op_of_act m.entry.act ≡ Some op → IsFitOp op
fit_op laws m op numbers is =
    let own = laws.operation m op is in
    let ops = program_ops m.image (name_of own.0) m.entry.cpu in
    let position = (state_before m m.entry.cpu).position in
    let plain : All (λ (p : Program). All IsWellFormed p.ops) m.image.programs = λ k d lt. (m.admitted.programs k d lt).well_formed in
    record {
      well_formed = got_all IsWellFormed ops position op (program_ops_all IsWellFormed m.image (name_of own.0) m.entry.cpu plain) own.3;
      typed = got_all IsTypedOp ops position op (program_ops_all IsTypedOp m.image (name_of own.0) m.entry.cpu numbers.ops) own.3;
    }

-- ---- entries

readable_act : (act : Act) → ((op : Op) → op_of_act act ≡ Some op → IsFitOp op) → HasTypedAct act → IsReadableAct act
readable_act (Read width at got) fit told = let op = fit (ReadOp width at) refl in (op.well_formed, op.typed, told)
readable_act (Write width at value ok) fit told = let op = fit (WriteOp width at value) refl in (op.well_formed.0, op.typed, op.well_formed.1)
readable_act (Fetch at got) fit told = let op = fit (FetchOp at) refl in (op.typed, told)
readable_act (Await width at value ok) fit told = let op = fit (AwaitOp width at value) refl in (op.well_formed.0, op.typed, op.well_formed.1)
readable_act (Irq device vector) fit told = told
readable_act (Hvc code a b answer) fit told = let op = fit (HvcOp code a b) refl in (op.typed.0, op.typed.1, op.typed.2, told)
readable_act (Begin code a b) fit told = (fit (HvcOp code a b) refl).typed
readable_act Stop fit told = tt
readable_act (Decide refused) fit told = told
readable_act (Settle how) fit told = tt
readable_act Commit fit told = tt
readable_act (Note id) fit told = told
readable_act (Noted id how) fit told = told
readable_act (Finish answer) fit told = told

readable_entry : (laws : JournalLaws) (m : AdmittedMoment) → HasTypedNumbers m.image → IsReadable m.entry
readable_entry laws m numbers = record {
  cpu = laws.cpu m;
  cell = laws.cell m numbers.image_typed;
  act = readable_act m.entry.act (λ op is. fit_op laws m op numbers is) (laws.told m numbers.image_typed);
}

readable_from : (laws : JournalLaws) (image : Image) (form : Form) → IsAdmitted image → HasTypedNumbers image → (rest before : List Entry) → IsLegal image form (before ++ rest) → AllByRecursion IsReadable rest
readable_from laws image form admitted numbers [] before legal = tt
readable_from laws image form admitted numbers (entry ∷ rest) before legal = (
  readable_entry laws (record { image = image; form = form; before = before; entry = entry; rest = rest; admitted = admitted; legal = legal }) numbers,
  readable_from laws image form admitted numbers rest (before ++ entry ∷ []) (subst (IsLegal image form) (sym (append_assoc before (entry ∷ []) rest)) legal),
)

pub readable : (laws : JournalLaws) (image : Image) (form : Form) → IsAdmitted image → HasTypedNumbers image → (entries : List Entry) → IsLegal image form entries → AllByRecursion IsReadable entries
readable laws image form admitted numbers entries legal = readable_from laws image form admitted numbers entries [] legal

pub readable_text : (laws : JournalLaws) → PrintedLaw → (image : Image) (form : Form) → IsAdmitted image → HasTypedNumbers image → (entries : List Entry) → IsLegal image form entries → length entries ≤ max_entries → IsJournalText (journal_text form entries) form entries
readable_text laws texts image form admitted numbers entries legal within = texts form entries (readable laws image form admitted numbers entries legal) within

-- a journal's text has no fault of a text
pub no_fault : (text : List ℕ) (form : Form) (entries : List Entry) (fault : JournalFault) → ((number : ℕ) → IsJournalText text form entries → IsFirstBadLine text number → ⊥) → (IsJournalText text form entries → IsTooLong text → ⊥)
    → IsJournalText text form entries → IsFault text fault → fault ≡ NoMemory
no_fault text form entries (Line number) bad long good h = absurd (bad number good h)
no_fault text form entries TooLong bad long good h = absurd (long good h)
no_fault text form entries NoMemory bad long good h = refl
