-- Bytes, by the entries that write them.
use Rattle.std.proofs.Common.{inl, inr, ◌≡◌, ◌≤◌, leb, ltb, ℕ, zero, suc, ◌+◌, ◌-◌, ◌<◌, List, [], ◌∷◌, ◌++◌, length, get_or, Bool, true, false, cond, Some, refl, sym, ap, subst, ◌∙◌, arith, append_assoc}
use Rattle.std.specs.Prelude.{IsTrue, slice_index, AllPairs, Contains}
use Rattle.std.specs.List.{fold, AllByRecursion}
use Rattle.std.proofs.lemmas.Bool.{false≢true, cases_Bool, and_from, and_parts, le-leb, lt-ltb, leb-true, ltb-true}
use Rattle.std.proofs.lemmas.Option.{none-some}
use Rattle.std.proofs.lemmas.List.{get_or_default}
use Rattle.jh_cellcfg.specs.declared.live.Live.{Live}
use Rattle.jh_cellcfg.specs.Cells.{name_of}
use Rattle.jh_ivshmem.specs.declared.endpoint.Endpoint.{Endpoint}
use Rattle.jh_ivshmem.specs.Links.{endpoint_at}
use Rattle.jh_script.specs.declared.image.Image.{Image}
use Rattle.jh_history.specs.declared.form.Form.{Form}
use Rattle.jh_script.specs.declared.image.Preload.{Preload}
use Rattle.jh_history.specs.declared.place.Place.{Place}
use Rattle.jh_history.specs.declared.place.Place.TheVariants.{Physical, Page}
use Rattle.jh_history.specs.declared.access.Access.TheVariants.{Write as ToWrite}
use Rattle.jh_history.specs.declared.entry.Entry.{Entry}
use Rattle.jh_history.specs.declared.entry.Act.{Act}
use Rattle.jh_history.specs.declared.entry.Act.TheVariants.{Write}
use Rattle.jh_history.specs.Facts.{Facts}
use Rattle.jh_history.specs.Bytes.{byte_written, preloaded, loaded_byte}
use Rattle.jh_history.specs.Devices.{specs_of}
use Rattle.jh_history.specs.History.{after, facts}
use Rattle.jh_history.specs.Due.{IsLegal, IsLegalFrom}
use Rattle.jh_history.specs.Admitted.{IsAdmitted, has_byte_at, IsOtherPreload}
use Rattle.jh_history.proofs.Public.{facts_push, facts_nil, IsLegal_begin}
use Rattle.jh_laws.specs.Outcomes.{is_violation}
use Rattle.jh_laws.specs.Preloads.{IsPreloaded}
use Rattle.jh_laws.specs.Writes.{WritesByteAlone, WritesNot}
use Rattle.jh_laws.specs.Written.{IsByteBy}
use Rattle.jh_laws.specs.Ends.{IsAnsweredByRegister}
use Rattle.jh_laws.proofs.RootLemmas.{op_well_formed}
use Rattle.jh_laws.proofs.EndsLemmas.{IsSmallAct, op_small_holds}
use Rattle.jh_laws.proofs.WordLemmas.{AreApart, IsInWords, words_kept, words_page, words_put}
use Rattle.jh_laws.proofs.WrittenLemmas.{write_puts, write_kept}
use Rattle.jh_laws.proofs.MadeLemmas.{IsSilent, by_root, IsNext, AllRoots, next_made, roots_after, roots_at, made_at}
use Rattle.jh_laws.proofs.OutcomeLemmas.{roots_sound}
use Rattle.jh_laws.proofs.AloneLemmas.{byte_after_roots}
use Rattle.jh_laws.proofs.FactsLemmas.{byte_after_holds, facts_append}
use Rattle.jh_laws.proofs.LegalLemmas.{IsLegal_rest}

-- root has no register, where no device has an endpoint
no_register : (image : Image) (f : Facts) (at width n bar offset : ℕ) (e : Endpoint) → f.endpoints ≡ [] → IsAnsweredByRegister image f image.system.root.id ToWrite at width n bar offset e → ⊥
no_register image f at width n bar offset e bare by =
    let P : List Endpoint → Type 0 = λ endpoints. endpoint_at image.system.root.id n endpoints ≡ Some e in
    none-some e (subst P bare by.within.is.there)

-- what a write writes, where root lives alone
is_written : (image : Image) (form : Form) (f : Facts) (act : Act) (place : Place) (byte : ℕ) → IsSilent image → AllRoots image f → WritesByteAlone image image.system.root act place byte → byte_written image f image.system.root.id act place ≡ byte
is_written image form f (Write width at value true) place byte admitted roots writes =
    let P : List Live → Type 0 = λ cells. IsByteBy image cells image.system.root.id at width value place byte in
    write_puts image f image.system.root.id at width value place byte (roots_sound image form f admitted roots) (subst P (sym roots.alone.cells) writes.1)
is_written image form f (Write width at value false) place byte admitted roots writes = absurd (false≢true writes.0)
is_written image form f _ place byte admitted roots writes = absurd writes

byte_kept : (image : Image) (form : Form) (f : Facts) (act : Act) (place : Place) → IsSilent image → AllRoots image f → IsSmallAct act → ((byte : ℕ) → WritesByteAlone image image.system.root act place byte → ⊥) → byte_written image f image.system.root.id act place ≡ f.byte place
byte_kept image form f (Write width at value true) place admitted roots small none =
    write_kept image f image.system.root.id at width value place (roots_sound image form f admitted roots) small.1
    (λ byte h. let P : List Live → Type 0 = λ cells. IsByteBy image cells image.system.root.id at width value place byte in none byte (refl, subst P roots.alone.cells h))
    (λ n e by. absurd (no_register image f at width n 0 0x10 e roots.endpoints by))
byte_kept image form f (Write width at value false) place admitted roots small none = refl
byte_kept image form f _ place admitted roots small none = refl

-- the value fits its width
made_small : (image : Image) (f : Facts) (entry : Entry) → IsSilent image → IsNext image f entry → IsSmallAct entry.act
made_small image f entry admitted made =
    op_small_holds image f image.system.root.id made.op entry.act (op_well_formed image (name_of image.system.root) entry.cpu (f.cpu entry.cpu).position made.op admitted.admitted made.at) made.act

-- one entry
after_at_root : (image : Image) (f : Facts) (entry : Entry) (place : Place) → IsSilent image → AllRoots image f → IsNext image f entry → (after image f entry).byte place ≡ byte_written image f image.system.root.id entry.act place
after_at_root image f entry place admitted roots made =
    ap (λ (byte : Place → ℕ). byte place) (byte_after_holds image f entry)
    ∙ byte_after_roots image f entry place (by_root image f entry admitted roots made)
    ∙ ap (λ (cell : ℕ). byte_written image f cell entry.act place) (made.cell_is ∙ (roots.cpus entry.cpu).owner)

after_written : (image : Image) (form : Form) (f : Facts) (entry : Entry) (place : Place) (byte : ℕ) → IsSilent image → AllRoots image f → IsNext image f entry → WritesByteAlone image image.system.root entry.act place byte → (after image f entry).byte place ≡ byte
after_written image form f entry place byte admitted roots made writes =
    after_at_root image f entry place admitted roots made ∙ is_written image form f entry.act place byte admitted roots writes

after_kept : (image : Image) (form : Form) (f : Facts) (entry : Entry) (place : Place) → IsSilent image → AllRoots image f → IsNext image f entry → WritesNot image image.system.root place entry → (after image f entry).byte place ≡ f.byte place
after_kept image form f entry place admitted roots made none =
    after_at_root image f entry place admitted roots made ∙ byte_kept image form f entry.act place admitted roots (made_small image f entry admitted made) none

roots_before : (image : Image) (form : Form) (before rest : List Entry) → IsSilent image → IsLegal image form (before ++ rest) → AllRoots image (facts image form before)
roots_before image form before rest admitted legal = roots_at image form before admitted (IsLegal_begin image form before rest legal)

pub byte_written_holds : (image : Image) (form : Form) (before rest : List Entry) (entry : Entry) (place : Place) (byte : ℕ) → IsSilent image → IsLegal image form (before ++ entry ∷ rest) → WritesByteAlone image image.system.root entry.act place byte
    → (facts image form (before ++ entry ∷ [])).byte place ≡ byte
byte_written_holds image form before rest entry place byte admitted legal writes =
    ap (λ (f : Facts). f.byte place) (facts_push image form before entry)
    ∙ after_written image form (facts image form before) entry place byte admitted (roots_before image form before (entry ∷ rest) admitted legal) (made_at image form before rest entry admitted legal) writes

pub byte_kept_holds : (image : Image) (form : Form) (before rest : List Entry) (entry : Entry) (place : Place) → IsSilent image → IsLegal image form (before ++ entry ∷ rest) → WritesNot image image.system.root place entry
    → (facts image form (before ++ entry ∷ [])).byte place ≡ (facts image form before).byte place
byte_kept_holds image form before rest entry place admitted legal none =
    ap (λ (f : Facts). f.byte place) (facts_push image form before entry)
    ∙ after_kept image form (facts image form before) entry place admitted (roots_before image form before (entry ∷ rest) admitted legal) (made_at image form before rest entry admitted legal) none

-- a violation writes nothing
violation_writes : (image : Image) (act : Act) (place : Place) (byte : ℕ) → is_violation act ≡ true → WritesByteAlone image image.system.root act place byte → ⊥
violation_writes image (Write width at value true) place byte h writes = false≢true h
violation_writes image (Write width at value false) place byte h writes = false≢true writes.0
violation_writes image _ place byte h writes = writes

pub byte_violation : (image : Image) (form : Form) (before rest : List Entry) (entry : Entry) (place : Place) → IsSilent image → IsLegal image form (before ++ entry ∷ rest) → is_violation entry.act ≡ true
    → (facts image form (before ++ entry ∷ [])).byte place ≡ (facts image form before).byte place
byte_violation image form before rest entry place admitted legal h = byte_kept_holds image form before rest entry place admitted legal (λ byte. violation_writes image entry.act place byte h)

-- entries that don't write the place
kept_from : (image : Image) (form : Form) (f : Facts) (entries : List Entry) (place : Place) → IsSilent image → AllRoots image f → IsLegalFrom image f entries → AllByRecursion (WritesNot image image.system.root place) entries
    → (fold (after image) f entries).byte place ≡ f.byte place
kept_from image form f [] place admitted roots legal none = refl
kept_from image form f (entry ∷ entries) place admitted roots legal none =
    let made : IsNext image f entry = next_made image f entry entries roots legal in
    kept_from image form (after image f entry) entries place admitted (roots_after image f entry admitted made roots) legal.1 none.1 ∙ after_kept image form f entry place admitted roots made none.0

pub byte_rest : (image : Image) (form : Form) (before rest : List Entry) (place : Place) → IsSilent image → IsLegal image form (before ++ rest) → AllByRecursion (WritesNot image image.system.root place) rest
    → (facts image form (before ++ rest)).byte place ≡ (facts image form before).byte place
byte_rest image form before rest place admitted legal none =
    ap (λ (f : Facts). f.byte place) (facts_append image form before rest)
    ∙ kept_from image form (facts image form before) rest place admitted (roots_before image form before rest admitted legal) (IsLegal_rest image form before rest legal) none

-- the last entry that wrote the place gave it its byte
pub byte_last : (image : Image) (form : Form) (before rest : List Entry) (entry : Entry) (place : Place) (byte : ℕ) → IsSilent image → IsLegal image form (before ++ entry ∷ rest) → WritesByteAlone image image.system.root entry.act place byte → AllByRecursion (WritesNot image image.system.root place) rest
    → (facts image form (before ++ entry ∷ rest)).byte place ≡ byte
byte_last image form before rest entry place byte admitted legal writes none =
    let split : (before ++ entry ∷ []) ++ rest ≡ before ++ entry ∷ rest = append_assoc before (entry ∷ []) rest in
    let P : List Entry → Type 0 = IsLegal image form in
    ap (λ (es : List Entry). (facts image form es).byte place) (sym split)
    ∙ byte_rest image form (before ++ entry ∷ []) rest place admitted (subst P (sym split) legal) none
    ∙ byte_written_holds image form before rest entry place byte admitted legal writes

-- preloads
abbrev NoneAt : List Preload → ℕ → Type 0
NoneAt ps place = (k : ℕ) (d : Preload) → k < length ps → has_byte_at (get_or ps k d) place ≡ false

none_later : (p : Preload) (ps : List Preload) (place : ℕ) → NoneAt (p ∷ ps) place → NoneAt ps place
none_later p ps place none k d lt = none (suc k) d (omega arith)

opened_none : (f : ℕ → ℕ) (ps : List Preload) (place : ℕ) → NoneAt ps place → fold preloaded f ps place ≡ f place
opened_none f [] place none = refl
opened_none f (p ∷ ps) place none =
    opened_none (preloaded f p) ps place (none_later p ps place none)
    ∙ ap (λ (b : Bool). cond b (slice_index p.bytes (place - p.at)) (f place)) (none 0 p (omega arith))

not_both : (p q : Preload) (place : ℕ) → has_byte_at p place ≡ true → IsOtherPreload p q → has_byte_at q place ≡ false
not_both p q place has other = elim (cases_Bool (has_byte_at q place)) [
  | inl both ↦ absurd (other place has both)
  | inr none ↦ none
]

apart_later : (p : Preload) (ps : List Preload) → AllPairs IsOtherPreload (p ∷ ps) → AllPairs IsOtherPreload ps
apart_later p ps apart i j d lt within = apart (suc i) (suc j) d (omega arith) (omega arith)

opened_put : (f : ℕ → ℕ) (ps : List Preload) (place i : ℕ) (d : Preload) → i < length ps → has_byte_at (get_or ps i d) place ≡ true → AllPairs IsOtherPreload ps
    → fold preloaded f ps place ≡ slice_index (get_or ps i d).bytes (place - (get_or ps i d).at)
opened_put f [] place i d lt has apart = absurd (omega arith)
opened_put f (p ∷ ps) place zero d lt has apart =
    opened_none (preloaded f p) ps place (λ k d' within. not_both p (get_or ps k d') place has (apart 0 (suc k) d' (omega arith) (omega arith)))
    ∙ ap (λ (b : Bool). cond b (slice_index p.bytes (place - p.at)) (f place)) has
opened_put f (p ∷ ps) place (suc i) d lt has apart = opened_put (preloaded f p) ps place i d (omega arith) has (apart_later p ps apart)

-- the bytes at opening, apart from the words of root's devices
abbrev pub IsApartAtOpening : Image → ℕ → Type 0
IsApartAtOpening image place = AreApart (specs_of image.system.root) (Physical place)

opening_is : (image : Image) (form : Form) (place : ℕ) → IsApartAtOpening image place → (facts image form []).byte (Physical place) ≡ loaded_byte image (Physical place)
opening_is image form place apart =
    ap (λ (f : Facts). f.byte (Physical place)) (facts_nil image form)
    ∙ words_kept (specs_of image.system.root) (loaded_byte image) (Physical place) apart

-- and in these words
pub opening_word : (image : Image) (form : Form) (place : ℕ) → IsInWords (specs_of image.system.root) (Physical place) → (facts image form []).byte (Physical place) ≡ 0
opening_word image form place h =
    ap (λ (f : Facts). f.byte (Physical place)) (facts_nil image form)
    ∙ words_put (specs_of image.system.root) (loaded_byte image) h.spec (Physical place) h.index h.among h.there

-- no word of a state table is in a page
pub opening_page : (image : Image) (form : Form) (cell offset : ℕ) → (facts image form []).byte (Page cell offset) ≡ 0
opening_page image form cell offset = ap (λ (f : Facts). f.byte (Page cell offset)) (facts_nil image form) ∙ words_page (specs_of image.system.root) (loaded_byte image) cell offset

-- what a preload puts stands there at opening
opening_put : (image : Image) (form : Form) (place : ℕ) (p : Preload) → IsAdmitted image → IsApartAtOpening image place → Contains image.preloads p → IsTrue (has_byte_at p place) → (facts image form []).byte (Physical place) ≡ slice_index p.bytes (place - p.at)
opening_put image form place p admitted apart held has =
    let same : get_or image.preloads held.0 p ≡ p = held.2 in
    opening_is image form place apart
    ∙ opened_put (λ _. 0) image.preloads place held.0 p held.1 (ap (λ (q : Preload). has_byte_at q place) same ∙ has) admitted.apart
    ∙ ap (λ (q : Preload). slice_index q.bytes (place - q.at)) same

-- and 0 elsewhere
opening_none : (image : Image) (form : Form) (place : ℕ) → IsApartAtOpening image place → ((p : Preload) → Contains image.preloads p → IsTrue (has_byte_at p place) → ⊥) → (facts image form []).byte (Physical place) ≡ 0
opening_none image form place apart none =
    let each : NoneAt image.preloads place = λ k d lt. elim (cases_Bool (has_byte_at (get_or image.preloads k d) place)) [
      | inl has ↦ absurd (none (get_or image.preloads k d) (k, lt, get_or_default image.preloads k (get_or image.preloads k d) d lt) has)
      | inr absent ↦ absent
    ] in
    opening_is image form place apart ∙ opened_none (λ _. 0) image.preloads place each

-- both by the place's number in the preload
has_byte_there : (p : Preload) (k : ℕ) → k < length p.bytes → has_byte_at p (p.at + k) ≡ true
has_byte_there p k lt = and_from (leb p.at (p.at + k)) (ltb (p.at + k) (p.at + length p.bytes)) (le-leb p.at (p.at + k) (omega arith)) (lt-ltb (p.at + k) (p.at + length p.bytes) (omega arith))

byte_put : (image : Image) (form : Form) (p : Preload) (k : ℕ) → IsAdmitted image → IsApartAtOpening image (p.at + k) → Contains image.preloads p → k < length p.bytes → (facts image form []).byte (Physical (p.at + k)) ≡ slice_index p.bytes k
byte_put image form p k admitted apart held lt =
    let same : (p.at + k) - p.at ≡ k = omega arith in
    opening_put image form (p.at + k) p admitted apart held (has_byte_there p k lt) ∙ ap (slice_index p.bytes) same

pub opening_byte : (image : Image) (form : Form) (place byte : ℕ) → IsAdmitted image → IsApartAtOpening image place → IsPreloaded image place byte → (facts image form []).byte (Physical place) ≡ byte
opening_byte image form place byte admitted apart by =
    ap (λ (q : ℕ). (facts image form []).byte (Physical q)) by.there ∙ byte_put image form by.preload by.index admitted (subst (IsApartAtOpening image) by.there apart) by.among by.within ∙ sym by.byte_is

pub opening_zero : (image : Image) (form : Form) (place : ℕ) → IsApartAtOpening image place → ((byte : ℕ) → IsPreloaded image place byte → ⊥) → (facts image form []).byte (Physical place) ≡ 0
opening_zero image form place apart none =
    opening_none image form place apart (λ p held has.
    let parts = and_parts (leb p.at place) (ltb place (p.at + length p.bytes)) has in
    let first : p.at ≤ place = leb-true p.at place parts.0 in
    let last : place < p.at + length p.bytes = ltb-true place (p.at + length p.bytes) parts.1 in
    none (slice_index p.bytes (place - p.at)) (record { preload = p; index = place - p.at; among = held; within = omega arith; there = omega arith; byte_is = refl }))
