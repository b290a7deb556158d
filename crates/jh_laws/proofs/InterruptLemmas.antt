-- When an interrupt is due, and which vector it takes.
use Rattle.std.proofs.Common.{◌≡◌, ℕ, List, ◌∷◌, ◌++◌, true, Some, sym, subst, ◌∙◌, inr, ⊎_elim}
use Rattle.std.proofs.lemmas.Bool.{both_ways}
use Rattle.std.proofs.lemmas.Option.{same_Some}
use Rattle.jh_script.specs.declared.image.Image.{Image}
use Rattle.jh_history.specs.declared.form.Form.{Form}
use Rattle.jh_script.specs.declared.op.Op.{Op}
use Rattle.jh_script.specs.declared.op.Op.TheVariants.{Irq as IrqOp}
use Rattle.jh_history.specs.declared.entry.Entry.{Entry}
use Rattle.jh_history.specs.declared.entry.Act.{Act}
use Rattle.jh_history.specs.declared.entry.Act.TheVariants.{Irq}
use Rattle.jh_history.specs.Admitted.{IsAdmitted}
use Rattle.jh_history.specs.Due.{IsLegal}
use Rattle.jh_history.specs.Endpoints.{IsNextOf}
use Rattle.jh_history.specs.Facts.{Facts}
use Rattle.jh_history.specs.History.{facts}
use Rattle.jh_history.specs.Lives.{op_at}
use Rattle.jh_history.proofs.Public.{interrupt_next, due_split, IsLegal_begin, legal_sound}
use Rattle.jh_laws.specs.Ready.{IsDueIn, IsAtInterrupt, IsReadyCaller, IsReadyProgram, IsReadyAt}
use Rattle.jh_laws.specs.Vectors.{HasPending, IsNextVector}
use Rattle.jh_laws.proofs.PendingLemmas.{next_is}

-- a CPU that is ready, and is at an interrupt, has a vector pending
program_pending : (image : Image) (f : Facts) (cpu : ℕ) → op_at image f (f.cpu cpu) cpu ≡ Some IrqOp → IsReadyProgram image f cpu → HasPending f (f.cpu cpu).owner
program_pending image f cpu at ready =
    let P : Op → Type 0 = IsDueIn image f (f.cpu cpu).owner in
    subst P (same_Some ready.op IrqOp (sym ready.at.at ∙ at)) ready.due

pub ready_pending : (image : Image) (f : Facts) (cpu : ℕ) → IsAtInterrupt image f cpu → IsReadyAt image f cpu → HasPending f (f.cpu cpu).owner
ready_pending image f cpu is ready =
    ⊎_elim
    (λ (asked : (f.cpu cpu).asked ≡ true). absurd (both_ways (f.cpu cpu).asked is.at.calm.asked asked))
    (λ more. ⊎_elim
    (λ (caller : IsReadyCaller image f cpu). absurd (is.at.none caller.0 caller.1 caller.2))
    (λ (program : IsReadyProgram image f cpu). program_pending image f cpu is.at.at program)
    more)
    ready.what

pub pending_ready : (image : Image) (f : Facts) (cpu : ℕ) → IsAtInterrupt image f cpu → HasPending f (f.cpu cpu).owner → IsReadyAt image f cpu
pending_ready image f cpu is pending = record {
  board = is.board;
  what = inr (inr (record { op = IrqOp; at = is.at; due = pending }));
}

-- an interrupt takes the next
pub interrupt_is : (image : Image) (form : Form) (before rest : List Entry) (entry : Entry) (n v : ℕ) → IsAdmitted image → IsLegal image form (before ++ entry ∷ rest) → entry.act ≡ Irq n v → IsNextVector (facts image form before) entry.cell n v
interrupt_is image form before rest entry n v admitted legal is =
    let f : Facts = facts image form before in
    let sound = legal_sound image form before admitted (IsLegal_begin image form before (entry ∷ rest) legal) in
    let P : Act → Type 0 = IsNextOf entry.cell f.endpoints in
    next_is image f entry.cell n v sound (subst P is (interrupt_next image f entry sound (due_split image form before rest entry legal)))
