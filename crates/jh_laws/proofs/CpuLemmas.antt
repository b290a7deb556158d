-- What entries do to CPUs, and where these are in their programs.
use Rattle.std.proofs.Common.{◌≡◌, ◌≢◌, ℕ, suc, ◌+◌, List, [], ◌∷◌, ◌++◌, length, take, Bool, true, false, cond, Option, Some, None, refl, sym, ap, subst, ◌∙◌, arith, append_assoc, zero-add, inl, inr}
use Rattle.std.specs.Prelude.{slice_get}
use Rattle.std.specs.List.{fold, AllByRecursion, cons_option}
use Rattle.std.proofs.lemmas.Bool.{ne_eqb, cases_eq}
use Rattle.std.proofs.lemmas.Option.{none-some, slice_get_within, get_or_from_slice_get}
use Rattle.std.proofs.lemmas.List.{take_more, append-nil}
use Rattle.jh_num.proofs.Public.{same_number}
use Rattle.jh_cpu.specs.declared.cpu.Cpu.{Cpu}
use Rattle.jh_cpu.specs.declared.cpu.Mode.TheVariants.{Failed}
use Rattle.jh_script.specs.declared.image.Image.{Image}
use Rattle.jh_history.specs.declared.form.Form.{Form}
use Rattle.jh_script.specs.declared.op.Op.{Op}
use Rattle.jh_history.specs.declared.entry.Entry.{Entry}
use Rattle.jh_history.specs.Facts.{Facts}
use Rattle.jh_history.specs.History.{start, after, facts}
use Rattle.jh_history.specs.Due.{due_at, due, IsLegal, IsLegalFrom}
use Rattle.jh_history.proofs.Public.{facts_push, IsLegal_begin}
use Rattle.jh_laws.specs.Outcomes.{is_violation}
use Rattle.jh_laws.specs.Operations.{op_of_act, op_by, operations_by, program_in}
use Rattle.jh_laws.proofs.MadeLemmas.{IsSilent, IsNext, AllRoots, moved_by, own_after, other_after, roots_after, roots_at, roots_start, next_made, made_at, made_access, due_at_failed, done_by_moved}
use Rattle.jh_laws.proofs.LegalLemmas.{IsLegal_rest}
use Rattle.jh_laws.proofs.FactsLemmas.{facts_append}

-- the entry's CPU after it, and the others
own_moved : (image : Image) (f : Facts) (entry : Entry) → IsSilent image → IsNext image f entry → (after image f entry).cpu entry.cpu ≡ moved_by (is_violation entry.act) (f.cpu entry.cpu)
own_moved image f entry admitted made = own_after image f entry admitted made ∙ done_by_moved image (is_violation entry.act) (f.cpu entry.cpu) entry.cpu made.op admitted made.at

pub cpu_by : (image : Image) (form : Form) (before rest : List Entry) (entry : Entry) (b : Bool) → IsSilent image → IsLegal image form (before ++ entry ∷ rest) → is_violation entry.act ≡ b
    → (facts image form (before ++ entry ∷ [])).cpu entry.cpu ≡ moved_by b ((facts image form before).cpu entry.cpu)
cpu_by image form before rest entry b admitted legal h =
    ap (λ (g : Facts). g.cpu entry.cpu) (facts_push image form before entry)
    ∙ own_moved image (facts image form before) entry admitted (made_at image form before rest entry admitted legal)
    ∙ ap (λ (v : Bool). moved_by v ((facts image form before).cpu entry.cpu)) h

pub cpu_other : (image : Image) (form : Form) (before rest : List Entry) (entry : Entry) (cpu : ℕ) → IsSilent image → IsLegal image form (before ++ entry ∷ rest) → cpu ≢ entry.cpu → (facts image form (before ++ entry ∷ [])).cpu cpu ≡ (facts image form before).cpu cpu
cpu_other image form before rest entry cpu admitted legal ne = ap (λ (g : Facts). g.cpu cpu) (facts_push image form before entry) ∙ other_after image (facts image form before) entry cpu admitted (made_at image form before rest entry admitted legal) ne

moved_one : (b : Bool) (state : Cpu) → (moved_by b state).position ≡ state.position + 1
moved_one true state = refl
moved_one false state = refl

position_after : (image : Image) (f : Facts) (entry : Entry) → IsSilent image → IsNext image f entry → ((after image f entry).cpu entry.cpu).position ≡ (f.cpu entry.cpu).position + 1
position_after image f entry admitted made = ap (λ (c : Cpu). c.position) (own_moved image f entry admitted made) ∙ moved_one (is_violation entry.act) (f.cpu entry.cpu)

-- each entry moves its CPU by one
pub cpu_position : (image : Image) (form : Form) (before rest : List Entry) (entry : Entry) → IsSilent image → IsLegal image form (before ++ entry ∷ rest)
    → ((facts image form (before ++ entry ∷ [])).cpu entry.cpu).position ≡ ((facts image form before).cpu entry.cpu).position + 1
cpu_position image form before rest entry admitted legal =
    ap (λ (g : Facts). (g.cpu entry.cpu).position) (facts_push image form before entry) ∙ position_after image (facts image form before) entry admitted (made_at image form before rest entry admitted legal)

-- the entry's CPU isn't one to which nothing is due
other_than : (image : Image) (f : Facts) (cpu : ℕ) (entry : Entry) → due_at image f cpu ≡ None → due_at image f entry.cpu ≡ Some entry → entry.cpu ≢ cpu
other_than image f cpu entry none due same = none-some entry (sym none ∙ ap (due_at image f) (sym same) ∙ due)

failed_from : (image : Image) (f : Facts) (entries : List Entry) (cpu : ℕ) → IsSilent image → AllRoots image f → (f.cpu cpu).mode ≡ Failed → IsLegalFrom image f entries
    → AllByRecursion (λ (e : Entry). e.cpu ≢ cpu) entries × (due_at image (fold (after image) f entries) cpu ≡ None)
failed_from image f [] cpu admitted roots failed legal = (tt, due_at_failed image f cpu roots.alone.call (roots.cpus cpu) failed)
failed_from image f (entry ∷ entries) cpu admitted roots failed legal =
    let ne : entry.cpu ≢ cpu = other_than image f cpu entry (due_at_failed image f cpu roots.alone.call (roots.cpus cpu) failed) legal.0 in
    let made : IsNext image f entry = next_made image f entry entries roots legal in
    let still : ((after image f entry).cpu cpu).mode ≡ Failed = ap (λ (c : Cpu). c.mode) (other_after image f entry cpu admitted made (λ e. ne (sym e))) ∙ failed in
    let rest = failed_from image (after image f entry) entries cpu admitted (roots_after image f entry admitted made roots) still legal.1 in
    ((ne, rest.0), rest.1)

-- a CPU that has failed makes no entry any more
failed_rest : (image : Image) (form : Form) (before rest : List Entry) (cpu : ℕ) → IsSilent image → IsLegal image form (before ++ rest) → ((facts image form before).cpu cpu).mode ≡ Failed
    → AllByRecursion (λ (e : Entry). e.cpu ≢ cpu) rest × (due image form (before ++ rest) cpu ≡ None)
failed_rest image form before rest cpu admitted legal failed =
    let found = failed_from image (facts image form before) rest cpu admitted (roots_at image form before admitted (IsLegal_begin image form before rest legal)) failed (IsLegal_rest image form before rest legal) in
    (found.0, ap (λ (f : Facts). due_at image f cpu) (facts_append image form before rest) ∙ found.1)

-- after a violation nothing is due to its CPU, and no entry is its own
pub violation_rest : (image : Image) (form : Form) (before rest : List Entry) (entry : Entry) → IsSilent image → IsLegal image form (before ++ entry ∷ rest) → is_violation entry.act ≡ true
    → AllByRecursion (λ (e : Entry). e.cpu ≢ entry.cpu) rest × (due image form (before ++ entry ∷ rest) entry.cpu ≡ None)
violation_rest image form before rest entry admitted legal h =
    let split : (before ++ entry ∷ []) ++ rest ≡ before ++ entry ∷ rest = append_assoc before (entry ∷ []) rest in
    let P : List Entry → Type 0 = IsLegal image form in
    let is_failed : ((facts image form (before ++ entry ∷ [])).cpu entry.cpu).mode ≡ Failed = ap (λ (c : Cpu). c.mode) (cpu_by image form before rest entry true admitted legal h) in
    let found = failed_rest image form (before ++ entry ∷ []) rest entry.cpu admitted (subst P (sym split) legal) is_failed in
    (found.0, ap (λ (es : List Entry). due image form es entry.cpu) (sym split) ∙ found.1)

-- what the CPU made goes on from the beginning of its program that it had made before
abbrev IsMadeFrom : Image → ℕ → Facts → Facts → List Entry → Type 0
IsMadeFrom image cpu f g entries = take (f.cpu cpu).position (program_in image image.system.root cpu) ++ operations_by cpu entries ≡ take (g.cpu cpu).position (program_in image image.system.root cpu)

-- one operation more
took : (ops : List Op) (i : ℕ) (op : Op) → slice_get ops i ≡ Some op → take (i + 1) ops ≡ take i ops ++ op ∷ []
took ops i op e = take_more ops i op (slice_get_within ops i op e) ∙ ap (λ (o : Op). take i ops ++ o ∷ []) (get_or_from_slice_get ops i op op e)

made_own : (image : Image) (f g : Facts) (entry : Entry) (entries : List Entry) → IsSilent image → IsNext image f entry → IsMadeFrom image entry.cpu (after image f entry) g entries → IsMadeFrom image entry.cpu f g (entry ∷ entries)
made_own image f g entry entries admitted made rest =
    let program = program_in image image.system.root entry.cpu in
    let i = (f.cpu entry.cpu).position in
    let op : op_by entry.cpu entry ≡ Some made.op = ap (λ (b : Bool). cond b (op_of_act entry.act) None) (same_number entry.cpu) ∙ (made_access image f entry.cpu entry made admitted).operation in
    let one : take i program ++ made.op ∷ operations_by entry.cpu entries ≡ take (i + 1) program ++ operations_by entry.cpu entries =
    sym (append_assoc (take i program) (made.op ∷ []) (operations_by entry.cpu entries)) ∙ ap (λ (xs : List Op). xs ++ operations_by entry.cpu entries) (sym (took program i made.op made.at)) in
    ap (λ (o : Option Op). take i program ++ cons_option o (operations_by entry.cpu entries)) op
    ∙ one
    ∙ ap (λ (n : ℕ). take n program ++ operations_by entry.cpu entries) (sym (position_after image f entry admitted made))
    ∙ rest

made_other : (image : Image) (cpu : ℕ) (f g : Facts) (entry : Entry) (entries : List Entry) → IsSilent image → IsNext image f entry → entry.cpu ≢ cpu → IsMadeFrom image cpu (after image f entry) g entries → IsMadeFrom image cpu f g (entry ∷ entries)
made_other image cpu f g entry entries admitted made ne rest =
    let program = program_in image image.system.root cpu in
    let op : op_by cpu entry ≡ None = ap (λ (b : Bool). cond b (op_of_act entry.act) None) (ne_eqb entry.cpu cpu ne) in
    ap (λ (o : Option Op). take (f.cpu cpu).position program ++ cons_option o (operations_by cpu entries)) op
    ∙ ap (λ (c : Cpu). take c.position program ++ operations_by cpu entries) (sym (other_after image f entry cpu admitted made (λ e. ne (sym e))))
    ∙ rest

made_one : (image : Image) (cpu : ℕ) (f g : Facts) (entry : Entry) (entries : List Entry) → IsSilent image → IsNext image f entry → IsMadeFrom image cpu (after image f entry) g entries → IsMadeFrom image cpu f g (entry ∷ entries)
made_one image cpu f g entry entries admitted made rest = elim (cases_eq entry.cpu cpu) [
  | inl same ↦ (
      let P : ℕ → Type 0 = λ c. IsMadeFrom image c (after image f entry) g entries → IsMadeFrom image c f g (entry ∷ entries) in
      subst P same (made_own image f g entry entries admitted made) rest)
  | inr other ↦ made_other image cpu f g entry entries admitted made other rest
]

made_from : (image : Image) (cpu : ℕ) (f : Facts) (entries : List Entry) → IsSilent image → AllRoots image f → IsLegalFrom image f entries → IsMadeFrom image cpu f (fold (after image) f entries) entries
made_from image cpu f [] admitted roots legal = append-nil (take (f.cpu cpu).position (program_in image image.system.root cpu))
made_from image cpu f (entry ∷ entries) admitted roots legal =
    let made : IsNext image f entry = next_made image f entry entries roots legal in
    made_one image cpu f (fold (after image) f (entry ∷ entries)) entry entries admitted made
    (made_from image cpu (after image f entry) entries admitted (roots_after image f entry admitted made roots) legal.1)

-- the entries of a CPU are a beginning of its program
pub operations_taken : (image : Image) (form : Form) (entries : List Entry) (cpu : ℕ) → IsSilent image → IsLegal image form entries
    → operations_by cpu entries ≡ take ((facts image form entries).cpu cpu).position (program_in image image.system.root cpu)
unfolding facts IsLegal
operations_taken image form entries cpu admitted legal = made_from image cpu (start image form) entries admitted (roots_start image form admitted.bare) legal

-- as many as its position tells
abbrev IsCounted : ℕ → Facts → Facts → List Entry → Type 0
IsCounted cpu f g entries = (g.cpu cpu).position ≡ (f.cpu cpu).position + length (operations_by cpu entries)

counted_own : (image : Image) (f g : Facts) (entry : Entry) (entries : List Entry) → IsSilent image → IsNext image f entry → IsCounted entry.cpu (after image f entry) g entries → IsCounted entry.cpu f g (entry ∷ entries)
counted_own image f g entry entries admitted made rest =
    let op : op_by entry.cpu entry ≡ Some made.op = ap (λ (b : Bool). cond b (op_of_act entry.act) None) (same_number entry.cpu) ∙ (made_access image f entry.cpu entry made admitted).operation in
    let more : length (operations_by entry.cpu (entry ∷ entries)) ≡ suc (length (operations_by entry.cpu entries)) = ap (λ (o : Option Op). length (cons_option o (operations_by entry.cpu entries))) op in
    let moved : ((after image f entry).cpu entry.cpu).position ≡ (f.cpu entry.cpu).position + 1 = position_after image f entry admitted made in
    let last : (g.cpu entry.cpu).position ≡ ((after image f entry).cpu entry.cpu).position + length (operations_by entry.cpu entries) = rest in
    omega arith

counted_other : (image : Image) (cpu : ℕ) (f g : Facts) (entry : Entry) (entries : List Entry) → IsSilent image → IsNext image f entry → entry.cpu ≢ cpu → IsCounted cpu (after image f entry) g entries → IsCounted cpu f g (entry ∷ entries)
counted_other image cpu f g entry entries admitted made ne rest =
    let op : op_by cpu entry ≡ None = ap (λ (b : Bool). cond b (op_of_act entry.act) None) (ne_eqb entry.cpu cpu ne) in
    rest
    ∙ ap (λ (c : Cpu). c.position + length (operations_by cpu entries)) (other_after image f entry cpu admitted made (λ e. ne (sym e)))
    ∙ ap (λ (o : Option Op). (f.cpu cpu).position + length (cons_option o (operations_by cpu entries))) (sym op)

counted_one : (image : Image) (cpu : ℕ) (f g : Facts) (entry : Entry) (entries : List Entry) → IsSilent image → IsNext image f entry → IsCounted cpu (after image f entry) g entries → IsCounted cpu f g (entry ∷ entries)
counted_one image cpu f g entry entries admitted made rest = elim (cases_eq entry.cpu cpu) [
  | inl same ↦ (
      let P : ℕ → Type 0 = λ c. IsCounted c (after image f entry) g entries → IsCounted c f g (entry ∷ entries) in
      subst P same (counted_own image f g entry entries admitted made) rest)
  | inr other ↦ counted_other image cpu f g entry entries admitted made other rest
]

counted_from : (image : Image) (cpu : ℕ) (f : Facts) (entries : List Entry) → IsSilent image → AllRoots image f → IsLegalFrom image f entries → IsCounted cpu f (fold (after image) f entries) entries
counted_from image cpu f [] admitted roots legal = omega arith
counted_from image cpu f (entry ∷ entries) admitted roots legal =
    let made : IsNext image f entry = next_made image f entry entries roots legal in
    counted_one image cpu f (fold (after image) f (entry ∷ entries)) entry entries admitted made
    (counted_from image cpu (after image f entry) entries admitted (roots_after image f entry admitted made roots) legal.1)

pub operations_counted : (image : Image) (form : Form) (entries : List Entry) (cpu : ℕ) → IsSilent image → IsLegal image form entries → ((facts image form entries).cpu cpu).position ≡ length (operations_by cpu entries)
unfolding facts IsLegal
operations_counted image form entries cpu admitted legal =
    let counted : IsCounted cpu (start image form) (fold (after image) (start image form) entries) entries = counted_from image cpu (start image form) entries admitted (roots_start image form admitted.bare) legal in
    counted ∙ zero-add (length (operations_by cpu entries))
