-- What files spell, and what they are refused for, is one.
use Rattle.std.proofs.Common.{◌≡◌, ◌≢◌, ℕ, ◌+◌, Bool, true, false, List, [], ◌∷◌, ◌++◌, length, Option, None, Some, Result, Err, ◌↔◌, inl, inr, refl, sym, ◌∙◌, ap, subst}
use Rattle.std.specs.Prelude.{fold, IsTrue, codes}
use Rattle.jh_cellcfg.specs.declared.config.CellConfig.{CellConfig}
use Rattle.jh_cellcfg.specs.declared.config.SystemConfig.{SystemConfig}
use Rattle.jh_cellcfg.specs.Faults.{first_fault}
use Rattle.jh_cellcfg.specs.Limits.{IsWithinLimits}
use Rattle.jh_cellcfg.specs.Spelling.{spelling}
use Rattle.jh_cellcfg.specs.Texts.{config_fault_text}
use Rattle.jh_cellcfg.specs.Typed.{IsCell}
use Rattle.jh_syscfg.specs.SystemFaults.{system_fault}
use Rattle.jh_spec.specs.declared.spec.Spec.{Spec}
use Rattle.jh_spec.specs.declared.fault.JsonFault.{JsonFault}
use Rattle.jh_spec.specs.declared.fault.JsonFault.TheVariants as specs
use Rattle.jh_spec.specs.Specs.{spec_told}
use Rattle.jh_script.specs.declared.image.Image.{Image}
use Rattle.jh_script.specs.FaultText.{schedule_fault_text}
use Rattle.jh_script.specs.Schedules.{schedule_of}
use Rattle.jh_history.specs.declared.form.Form.{Form}
use Rattle.jh_history.specs.declared.entry.Entry.{Entry}
use Rattle.jh_history.specs.Facts.{Facts}
use Rattle.jh_history.specs.History.{start, after, facts}
use Rattle.jh_history.specs.Due.{due_at, due, IsLegalFrom, IsLegal, IsQuiet}
use Rattle.jh_text.specs.declared.fault.JournalFault.{JournalFault}
use Rattle.jh_text.specs.declared.fault.JournalFault.TheVariants as journals
use Rattle.jh_text.specs.Faults.{IsFault}
use Rattle.jh_text.proofs.Public.{OneJournal, NotBoth, OneLine}
use Rattle.jh_text.specs.FaultText.{journal_fault_text}
use Rattle.jh_audit.specs.declared.verdict.Verdict.{Verdict}
use Rattle.jh_audit.specs.declared.verdict.Verdict.TheVariants.{Legal, Illegal}
use Rattle.jh_audit.specs.Judges.{Judges, IsFirstIllegal}
use Rattle.jh_image.proofs.Public.{hands_one}
use Rattle.jh_cli.specs.declared.status.Status.TheVariants.{ReadFault}
use Rattle.jh_cli.specs.Limits.{asked_of_a_file, asked_of_a_journal}
use Rattle.jh_image.specs.Files.{Contents}
use Rattle.jh_cli.specs.Reading.{Reply, EndsAt, SpellsAt, Reads}
use Rattle.jh_cli.specs.Check.{IsCellFile, CellRefusal, SystemRefusal, SpellCells, ChecksCells, checked}
use Rattle.jh_cli.specs.Pack.{IsSpecFile, SpecRefusal}
use Rattle.jh_cli.specs.Play.{ScheduleRefusal}
use Rattle.jh_cli.specs.Audit.{JournalRefusal, SpelledJournal, IsJournalFile, IsAudited, verdict_status, verdict_line}
use Rattle.jh_cli.specs.Complete.{AreKnownNames}
use Rattle.jh_cli.proofs.GoodLemmas.{CellsAreFaultless, no_more, cell_sound, same_for_image}
use Rattle.jh_cli.proofs.StopLemmas.{refusal_reply}
use Rattle.jh_num.proofs.Public.{ok_one}

-- ---- the laws of the layers below

abbrev pub OneCell : Type 0
OneCell = (a b : CellConfig) → IsCell a → IsCell b → IsWithinLimits a → IsWithinLimits b → spelling a ≡ spelling b → a ≡ b

-- ---- one file

abbrev verdict_reply : Form → Verdict → Reply
verdict_reply form verdict = record { status = verdict_status verdict; text = verdict_line form verdict }

abbrev pub IsRead : Reply → Type 0
IsRead reply = reply.status ≢ ReadFault

module _ {A : Type 0} (most : ℕ) (contents : Contents) (name : List ℕ) (is_told : contents name ≢ None) (Why : List ℕ → List ℕ → Type 0) (Form : List ℕ → A → Type 0) where
  abbrev pub OneWord : Type 0
  OneWord = (bytes v w : List ℕ) → Why bytes v → Why bytes w → v ≡ w

  abbrev pub OneValue : Type 0
  OneValue = (bytes : List ℕ) (a b : A) → Form bytes a → Form bytes b → a ≡ b

  abbrev pub Apart : Type 0
  Apart = (bytes : List ℕ) (a : A) (words : List ℕ) → Form bytes a → Why bytes words → ⊥

  one_stop : OneWord → (one other : Reply) → EndsAt most contents name Why one → EndsAt most contents name Why other → IsRead one → IsRead other → one ≡ other
  one_stop words one other (inl h) k read also = absurd (read (ap (λ (s : Reply). s.status) h))
  one_stop words one other (inr h) (inl k) read also = absurd (also (ap (λ (s : Reply). s.status) k))
  one_stop words one other (inr h) (inr k) read also =
      let bytes : h.bytes ≡ k.bytes = hands_one (contents name) most h.bytes k.bytes is_told h.handed k.handed in
      let same : h.words ≡ k.words = words k.bytes h.words k.words (subst (λ b. Why b h.words) bytes h.why) k.why in
      h.told ∙ ap (refusal_reply name) same ∙ sym k.told

  spelled_or_stopped : Apart → (value : A) (reply : Reply) → SpellsAt most contents name Form value → EndsAt most contents name Why reply → IsRead reply → ⊥
  spelled_or_stopped apart value reply spells (inl h) read = read (ap (λ (s : Reply). s.status) h)
  spelled_or_stopped apart value reply spells (inr h) read =
      let bytes : h.bytes ≡ spells.bytes = hands_one (contents name) most h.bytes spells.bytes is_told h.handed spells.handed in
      apart spells.bytes value h.words spells.spelled (subst (λ b. Why b h.words) bytes h.why)

  one_spelled : OneValue → (a b : A) → SpellsAt most contents name Form a → SpellsAt most contents name Form b → a ≡ b
  one_spelled values a b h k =
      let bytes : h.bytes ≡ k.bytes = hands_one (contents name) most h.bytes k.bytes is_told h.handed k.handed in
      values k.bytes a b (subst (λ x. Form x a) bytes h.spelled) k.spelled

  pub one_reading : OneWord → OneValue → Apart → (next : A → Reply → Type 0) (one other : Reply)
      → ((value : A) → next value one → next value other → IsRead one → IsRead other → one ≡ other)
      → Reads contents name (record { most = most; Refusal = Why; Form = Form }) next one → Reads contents name (record { most = most; Refusal = Why; Form = Form }) next other → IsRead one → IsRead other → one ≡ other
  one_reading words values apart next one other rest (inl h) (inl k) read also = one_stop words one other h k read also
  one_reading words values apart next one other rest (inl h) (inr k) read also = absurd (spelled_or_stopped apart k.0 one k.1 h read)
  one_reading words values apart next one other rest (inr h) (inl k) read also = absurd (spelled_or_stopped apart h.0 other h.1 k also)
  one_reading words values apart next one other rest (inr h) (inr k) read also =
      let same : h.0 ≡ k.0 = one_spelled values h.0 k.0 h.1 k.1 in
      rest k.0 (subst (λ (v : A). next v one) same h.2) k.2 read also

-- ---- check

pub some_one : {X : Type 0} (o : Option X) (a b : X) → o ≡ Some a → o ≡ Some b → a ≡ b
some_one o a b h k = cc

pub err_one : {X E : Type 0} (r : Result X E) (a b : E) → r ≡ Err a → r ≡ Err b → a ≡ b
err_one r a b h k = cc

pub system_words : (bytes v w : List ℕ) → SystemRefusal bytes v → SystemRefusal bytes w → v ≡ w
system_words bytes v w (inl h) (inl k) = h.1 ∙ sym k.1
system_words bytes v w (inl h) (inr k) = absurd (no_more asked_of_a_file bytes k.within h.0)
system_words bytes v w (inr h) (inl k) = absurd (no_more asked_of_a_file bytes h.within k.0)
system_words bytes v w (inr h) (inr k) = h.told ∙ ap config_fault_text (some_one (system_fault bytes) h.fault k.fault h.first k.first) ∙ sym k.told

cell_words : (bytes v w : List ℕ) → CellRefusal bytes v → CellRefusal bytes w → v ≡ w
cell_words bytes v w (inl h) (inl k) = h.1 ∙ sym k.1
cell_words bytes v w (inl h) (inr k) = absurd (no_more asked_of_a_file bytes k.within h.0)
cell_words bytes v w (inr h) (inl k) = absurd (no_more asked_of_a_file bytes h.within k.0)
cell_words bytes v w (inr h) (inr k) = h.told ∙ ap config_fault_text (some_one (first_fault bytes) h.fault k.fault h.first k.first) ∙ sym k.told

cell_values : OneCell → (bytes : List ℕ) (a b : CellConfig) → IsCellFile bytes a → IsCellFile bytes b → a ≡ b
cell_values one bytes a b h k = one a b h.typed k.typed h.limits k.limits (sym h.spelled ∙ k.spelled)

module _ (faultless : CellsAreFaultless) (one_cell : OneCell) (contents : Contents) where
  cell_apart : (bytes : List ℕ) (cell : CellConfig) (words : List ℕ) → IsCellFile bytes cell → CellRefusal bytes words → ⊥
  cell_apart bytes cell words form why = cell_sound faultless cell bytes words form why

  not_both : (name : List ℕ) → contents name ≢ None → (cell : CellConfig) (reply : Reply) → SpellsAt asked_of_a_file contents name IsCellFile cell → EndsAt asked_of_a_file contents name CellRefusal reply → IsRead reply → ⊥
  not_both name told cell reply = spelled_or_stopped asked_of_a_file contents name told CellRefusal IsCellFile cell_apart cell reply

  one_cells : (names : List (List ℕ)) → AreKnownNames contents names → (a b : List CellConfig) → SpellCells contents names a → SpellCells contents names b → a ≡ b
  one_cells [] told [] [] h k = refl
  one_cells [] told [] (b ∷ bs) h k = absurd k
  one_cells [] told (a ∷ us) b h k = absurd h
  one_cells (n ∷ ns) told [] b h k = absurd h
  one_cells (n ∷ ns) told (a ∷ us) [] h k = absurd k
  one_cells (n ∷ ns) told (a ∷ us) (b ∷ bs) h k =
      let first : a ≡ b = one_spelled asked_of_a_file contents n told.0 CellRefusal IsCellFile (cell_values one_cell) a b h.0 k.0 in
      let rest : us ≡ bs = one_cells ns told.1 us bs h.1 k.1 in
      ap (λ (x : CellConfig). x ∷ us) first ∙ ap (λ (xs : List CellConfig). b ∷ xs) rest

  -- a file that stops the call isn't among those that spell cells
  stop_among : (before : List (List ℕ)) (name : List ℕ) (rest : List (List ℕ)) (cells : List CellConfig) (reply : Reply) → AreKnownNames contents (before ++ name ∷ rest)
      → SpellCells contents (before ++ name ∷ rest) cells → EndsAt asked_of_a_file contents name CellRefusal reply → IsRead reply → ⊥
  stop_among [] name rest [] reply told h k read = h
  stop_among [] name rest (c ∷ cs) reply told h k read = not_both name told.0 c reply h.0 k read
  stop_among (b ∷ bs) name rest [] reply told h k read = h
  stop_among (b ∷ bs) name rest (c ∷ cs) reply told h k read = stop_among bs name rest cs reply told.1 h.1 k read

  -- the first file that stops the call is one
  one_among : (xs : List (List ℕ)) (x : List ℕ) (r ys : List (List ℕ)) (y : List ℕ) (s : List (List ℕ)) (us bs : List CellConfig) (one other : Reply) → AreKnownNames contents (xs ++ x ∷ r)
      → xs ++ x ∷ r ≡ ys ++ y ∷ s → SpellCells contents xs us → SpellCells contents ys bs
      → EndsAt asked_of_a_file contents x CellRefusal one → EndsAt asked_of_a_file contents y CellRefusal other → IsRead one → IsRead other → one ≡ other
  one_among [] x r [] y s us bs one other told same h k stops also read read_also =
      let head : x ≡ y = cc same in
      one_stop asked_of_a_file contents x told.0 CellRefusal IsCellFile cell_words one other stops (subst (λ n. EndsAt asked_of_a_file contents n CellRefusal other) (sym head) also) read read_also
  one_among [] x r (y1 ∷ ys) y s us [] one other told same h k stops also read read_also = absurd k
  one_among [] x r (y1 ∷ ys) y s us (b ∷ bs) one other told same h k stops also read read_also =
      let head : x ≡ y1 = cc same in
      absurd (not_both x told.0 b one (subst (λ n. SpellsAt asked_of_a_file contents n IsCellFile b) (sym head) k.0) stops read)
  one_among (x1 ∷ xs) x r [] y s [] bs one other told same h k stops also read read_also = absurd h
  one_among (x1 ∷ xs) x r [] y s (a ∷ us) bs one other told same h k stops also read read_also =
      let head : x1 ≡ y = cc same in
      absurd (not_both x1 told.0 a other h.0 (subst (λ n. EndsAt asked_of_a_file contents n CellRefusal other) (sym head) also) read_also)
  one_among (x1 ∷ xs) x r (y1 ∷ ys) y s [] bs one other told same h k stops also read read_also = absurd h
  one_among (x1 ∷ xs) x r (y1 ∷ ys) y s (a ∷ us) [] one other told same h k stops also read read_also = absurd k
  one_among (x1 ∷ xs) x r (y1 ∷ ys) y s (a ∷ us) (b ∷ bs) one other told same h k stops also read read_also =
      let tail : xs ++ x ∷ r ≡ ys ++ y ∷ s = cc same in
      one_among xs x r ys y s us bs one other told.1 tail h.1 k.1 stops also read read_also

  pub one_check : (names : List (List ℕ)) (system : SystemConfig) (one other : Reply) → AreKnownNames contents names → ChecksCells contents names system one → ChecksCells contents names system other → IsRead one → IsRead other → one ≡ other
  one_check names system one other told (inl h) (inl k) read also =
      one_among h.before h.name h.rest k.before k.name k.rest h.cells k.cells one other (subst (AreKnownNames contents) h.split told) (sym h.split ∙ k.split) h.spelled k.spelled h.stops k.stops read also
  one_check names system one other told (inl h) (inr k) read also =
      absurd (stop_among h.before h.name h.rest k.0 one (subst (AreKnownNames contents) h.split told) (subst (λ ns. SpellCells contents ns k.0) h.split k.1) h.stops read)
  one_check names system one other told (inr h) (inl k) read also =
      absurd (stop_among k.before k.name k.rest h.0 other (subst (AreKnownNames contents) k.split told) (subst (λ ns. SpellCells contents ns h.0) k.split h.1) k.stops also)
  one_check names system one other told (inr h) (inr k) read also =
      let same : h.0 ≡ k.0 = one_cells names told h.0 k.0 h.1 k.1 in
      h.2 ∙ ap (checked system) same ∙ sym k.2

-- ---- pack

json_or_member : (r : Result Spec JsonFault) (name : List ℕ) → r ≡ Err specs.Json → r ≡ Err (specs.Member name) → ⊥
json_or_member r name h k = cc

one_member : (r : Result Spec JsonFault) (a b : List ℕ) → r ≡ Err (specs.Member a) → r ≡ Err (specs.Member b) → a ≡ b
one_member r a b h k = cc

pub spec_words : (bytes v w : List ℕ) → SpecRefusal bytes v → SpecRefusal bytes w → v ≡ w
spec_words bytes v w (inl h) (inl k) = h.1 ∙ sym k.1
spec_words bytes v w (inl h) (inr (inl k)) = absurd (no_more asked_of_a_file bytes k.0 h.0)
spec_words bytes v w (inl h) (inr (inr k)) = absurd (no_more asked_of_a_file bytes k.within h.0)
spec_words bytes v w (inr (inl h)) (inl k) = absurd (no_more asked_of_a_file bytes h.0 k.0)
spec_words bytes v w (inr (inl h)) (inr (inl k)) = h.2 ∙ sym k.2
spec_words bytes v w (inr (inl h)) (inr (inr k)) = absurd (json_or_member (spec_told k.faulty.0) k.name (h.1 k.faulty.0 k.faulty.1) k.faulty.2)
spec_words bytes v w (inr (inr h)) (inl k) = absurd (no_more asked_of_a_file bytes h.within k.0)
spec_words bytes v w (inr (inr h)) (inr (inl k)) = absurd (json_or_member (spec_told h.faulty.0) h.name (k.1 h.faulty.0 h.faulty.1) h.faulty.2)
spec_words bytes v w (inr (inr h)) (inr (inr k)) =
    let read : Some h.faulty.0 ≡ Some k.faulty.0 = sym h.faulty.1.value ∙ k.faulty.1.value in
    let value : h.faulty.0 ≡ k.faulty.0 = cc read in
    let same : h.name ≡ k.name = one_member (spec_told k.faulty.0) h.name k.name (ap spec_told (sym value) ∙ h.faulty.2) k.faulty.2 in
    h.told ∙ ap (λ n. codes "member " ++ n) same ∙ sym k.told

pub spec_values : (bytes : List ℕ) (a b : Spec) → IsSpecFile bytes a → IsSpecFile bytes b → a ≡ b
spec_values bytes a b h k =
    let read : Some h.1.0 ≡ Some k.1.0 = sym h.1.1.value ∙ k.1.1.value in
    let value : h.1.0 ≡ k.1.0 = cc read in
    ok_one (spec_told k.1.0) a b (ap spec_told (sym value) ∙ h.1.2) k.1.2

-- ---- play and audit

pub schedule_words : (image : Image) (bytes v w : List ℕ) → ScheduleRefusal image bytes v → ScheduleRefusal image bytes w → v ≡ w
schedule_words image bytes v w (inl h) (inl k) = h.1 ∙ sym k.1
schedule_words image bytes v w (inl h) (inr k) = absurd (no_more asked_of_a_file bytes k.within h.0)
schedule_words image bytes v w (inr h) (inl k) = absurd (no_more asked_of_a_file bytes h.within k.0)
schedule_words image bytes v w (inr h) (inr k) =
    h.told ∙ ap schedule_fault_text (err_one (schedule_of h.cpus bytes) h.fault k.fault h.first (same_for_image image h.cpus k.cpus bytes h.are k.are ∙ k.first)) ∙ sym k.told

one_fault : NotBoth → OneLine → (bytes : List ℕ) (a b : JournalFault) → a ≢ journals.NoMemory → b ≢ journals.NoMemory → IsFault bytes a → IsFault bytes b → a ≡ b
one_fault not_both one_line bytes (journals.Line m) (journals.Line n) h k a b = ap journals.Line (one_line bytes m n a b)
one_fault not_both one_line bytes (journals.Line m) journals.TooLong h k a b = absurd (not_both bytes m a b)
one_fault not_both one_line bytes journals.TooLong (journals.Line n) h k a b = absurd (not_both bytes n b a)
one_fault not_both one_line bytes journals.TooLong journals.TooLong h k a b = refl
one_fault not_both one_line bytes journals.NoMemory b h k x y = absurd (h refl)
one_fault not_both one_line bytes (journals.Line m) journals.NoMemory h k x y = absurd (k refl)
one_fault not_both one_line bytes journals.TooLong journals.NoMemory h k x y = absurd (k refl)

pub journal_words : NotBoth → OneLine → (bytes v w : List ℕ) → JournalRefusal bytes v → JournalRefusal bytes w → v ≡ w
journal_words not_both one_line bytes v w (inl h) (inl k) = h.1 ∙ sym k.1
journal_words not_both one_line bytes v w (inl h) (inr k) = absurd (no_more asked_of_a_journal bytes k.within h.0)
journal_words not_both one_line bytes v w (inr h) (inl k) = absurd (no_more asked_of_a_journal bytes h.within k.0)
journal_words not_both one_line bytes v w (inr h) (inr k) =
    h.told ∙ ap journal_fault_text (one_fault not_both one_line bytes h.fault k.fault h.is_of_text k.is_of_text h.first k.first) ∙ sym k.told

-- the bytes of a file spell one journal
pub one_spelled_journal : OneJournal → (bytes : List ℕ) (a b : SpelledJournal) → IsJournalFile bytes a → IsJournalFile bytes b → a ≡ b
one_spelled_journal one_journal bytes a b h k =
    let forms : a.form ≡ b.form = h.spelled.form_is ∙ sym k.spelled.form_is in
    let entries : a.entries ≡ b.entries = one_journal bytes a.form b.form a.entries b.entries h.spelled k.spelled in
    λ i. record { form = forms i; entries = entries i }

-- a legal journal's entry is the one due behind those before it
legal_due : (image : Image) (known : Facts) (before : List Entry) (entry : Entry) (rest : List Entry) → IsLegalFrom image known (before ++ entry ∷ rest) → due_at image (fold (after image) known before) entry.cpu ≡ Some entry
legal_due image known [] entry rest h = h.0
legal_due image known (b ∷ bs) entry rest h = legal_due image (after image known b) bs entry rest h.1

-- the first entry that isn't due is one
one_illegal : (image : Image) (known : Facts) (xs : List Entry) (x : Entry) (r ys : List Entry) (y : Entry) (s : List Entry) → xs ++ x ∷ r ≡ ys ++ y ∷ s → IsLegalFrom image known xs → IsLegalFrom image known ys
    → due_at image (fold (after image) known xs) x.cpu ≢ Some x → due_at image (fold (after image) known ys) y.cpu ≢ Some y → (xs ≡ ys) × (x ≡ y)
one_illegal image known [] x r [] y s same h k never also = (refl, cc same)
one_illegal image known [] x r (y1 ∷ ys) y s same h k never also =
    let head : x ≡ y1 = cc same in
    absurd (never (subst (λ (e : Entry). due_at image known e.cpu ≡ Some e) (sym head) k.0))
one_illegal image known (x1 ∷ xs) x r [] y s same h k never also =
    let head : x1 ≡ y = cc same in
    absurd (also (subst (λ (e : Entry). due_at image known e.cpu ≡ Some e) head h.0))
one_illegal image known (x1 ∷ xs) x r (y1 ∷ ys) y s same h k never also =
    let head : x1 ≡ y1 = cc same in
    let tail : xs ++ x ∷ r ≡ ys ++ y ∷ s = cc same in
    let legal : IsLegalFrom image (after image known x1) ys = subst (λ (e : Entry). IsLegalFrom image (after image known e) ys) (sym head) k.1 in
    let differs : due_at image (fold (after image) (after image known x1) ys) y.cpu ≢ Some y = subst (λ (e : Entry). due_at image (fold (after image) (after image known e) ys) y.cpu ≢ Some y) (sym head) also in
    let rest = one_illegal image (after image known x1) xs x r ys y s tail h.1 legal never differs in
    (ap (λ (e : Entry). e ∷ xs) head ∙ ap (λ (es : List Entry). y1 ∷ es) rest.0, rest.1)

same_bool : (P : Type 0) (a b : Bool) → (IsTrue a ↔ P) → (IsTrue b ↔ P) → a ≡ b
same_bool P true true h k = refl
same_bool P true false h k = sym (k.1 (h.0 refl))
same_bool P false true h k = h.1 (k.0 refl)
same_bool P false false h k = refl

legal_not_illegal : (image : Image) (form : Form) (entries : List Entry) (line : ℕ) (expected : Option Entry) → IsLegal image form entries → IsFirstIllegal image form entries line expected → ⊥
unfolding IsLegal facts
legal_not_illegal image form entries line expected legal h =
    h.differs (h.was_due ∙ legal_due image (start image form) h.before h.entry h.rest (subst (λ (es : List Entry). IsLegalFrom image (start image form) es) h.split legal))

one_first_illegal : (image : Image) (form : Form) (entries : List Entry) (m n : ℕ) (a b : Option Entry) → IsFirstIllegal image form entries m a → IsFirstIllegal image form entries n b → (m ≡ n) × (a ≡ b)
unfolding IsLegal facts
one_first_illegal image form entries m n a b h k =
    let both = one_illegal image (start image form) h.before h.entry h.rest k.before k.entry k.rest (sym h.split ∙ k.split) h.legal k.legal (λ is. h.differs (h.was_due ∙ is)) (λ is. k.differs (k.was_due ∙ is)) in
    let due_there : due image form h.before h.entry.cpu ≡ due image form k.before k.entry.cpu =
    ap (λ (es : List Entry). due image form es h.entry.cpu) both.0 ∙ ap (λ (e : Entry). due image form k.before e.cpu) both.1 in
    (h.counted ∙ ap (λ (es : List Entry). length es + 1) both.0 ∙ sym k.counted, h.was_due ∙ due_there ∙ sym k.was_due)

one_verdict : (image : Image) (form : Form) (entries : List Entry) (a b : Verdict) → Judges image form entries a → Judges image form entries b → a ≡ b
one_verdict image form entries (Legal m p) (Legal n q) h k =
    ap (λ (l : ℕ). Legal l p) (h.1 ∙ sym k.1) ∙ ap (λ (b : Bool). Legal n b) (same_bool (IsQuiet image form entries) p q h.2 k.2)
one_verdict image form entries (Legal m p) (Illegal n b) h k = absurd (legal_not_illegal image form entries n b h.0 k)
one_verdict image form entries (Illegal m a) (Legal n q) h k = absurd (legal_not_illegal image form entries m a k.0 h)
one_verdict image form entries (Illegal m a) (Illegal n b) h k =
    let both = one_first_illegal image form entries m n a b h k in
    ap (λ (l : ℕ). Illegal l a) both.0 ∙ ap (λ (e : Option Entry). Illegal n e) both.1

pub one_audited : (image : Image) (journal : SpelledJournal) (one other : Reply) → IsAudited image journal one → IsAudited image journal other → one ≡ other
one_audited image journal one other h k =
    h.told ∙ ap (verdict_reply journal.form) (one_verdict image journal.form journal.entries h.verdict k.verdict h.judged k.judged) ∙ sym k.told
