-- Creates by what root may read at their address.
use Rattle.std.proofs.Common.{◌≡◌, ◌≢◌, ℕ, zero, suc, ◌+◌, ◌<◌, min, List, [], ◌∷◌, ℤ, negsuc, Bool, true, false, cond, not, ◌&&◌, eqb, length, length-take, get_or, take, map, Option, Some, None, refl, sym, ap, subst, ◌∙◌, inl, inr, ⊎_elim, arith}
use Rattle.std.specs.Prelude.{◌⊎◌, Contains, nat_eq, nat_lt, option_map, option_and_then}
use Rattle.std.specs.Cmp.Lexicographic.{pointwise}
use Rattle.std.proofs.lemmas.Bool.{both_ways, and_from, and_left, and_right, cases_Bool, eqb-true, eq-eqb, ne_eqb, false_from_ne_true, lt-ltb, le-ltb, or_cases, or_left, or_right}
use Rattle.std.proofs.lemmas.List.{get_or-take}
use Rattle.std.proofs.lemmas.Slice.Eq.{bytes_eq-Decides}
use Rattle.std.proofs.lemmas.Option.{none-some, same_Some}
use Rattle.jh_num.proofs.Public.{Contains_cases, Contains_from_map, Contains_head, Contains_map, Contains_tail, IsFound_from_list_any, list_any_from_Contains}
use Rattle.jh_cellcfg.specs.declared.config.CellConfig.{CellConfig}
use Rattle.jh_cellcfg.specs.declared.fault.ConfigFault.{ConfigFault}
use Rattle.jh_cellcfg.specs.declared.fault.ConfigFault.TheVariants.{Short, Signature, Revision, Name, Count, Trailing, NoMemory}
use Rattle.jh_cellcfg.specs.declared.fault.Part.TheVariants.{CpuSet, MemoryRegions, CacheRegions, Irqchips, PioRegions, PciDevices, PciCaps, StreamIds, Total}
use Rattle.jh_cellcfg.specs.declared.live.Live.{Live}
use Rattle.jh_cellcfg.specs.Cells.{name_of}
use Rattle.jh_cellcfg.specs.Faults.{header_fault, size_by_header}
use Rattle.jh_cellcfg.specs.Lives.{id_of}
use Rattle.jh_cellcfg.specs.Reading.{config_of}
use Rattle.jh_check.specs.declared.verdict.NewCell.{NewCell}
use Rattle.jh_check.specs.declared.verdict.NewCell.TheVariants.{Clean, Invalid, Busy}
use Rattle.jh_check.specs.Refusals.{is_known, is_namesake, names_beyond, by_check, refusal_of}
use Rattle.jh_check.specs.Verdicts.{verdict_of}
use Rattle.jh_check.proofs.Public.{beyond_named, named_beyond}
use Rattle.jh_call.specs.declared.call.Call.TheVariants.{Create}
use Rattle.jh_history.specs.declared.access.Access.TheVariants.{Read as ToRead}
use Rattle.jh_history.specs.declared.place.Place.{Place}
use Rattle.jh_history.specs.Access.{places_from}
use Rattle.jh_history.specs.Admitted.{pool_pages}
use Rattle.jh_history.specs.Configs.{bytes_at, refused_for}
use Rattle.jh_history.specs.Facts.{Facts}
use Rattle.jh_history.specs.Grants.{granted}
use Rattle.jh_history.specs.Lives.{is_on_board}
use Rattle.jh_history.specs.Phases.{may_give, state_word}
use Rattle.jh_laws.specs.Creates.{RootMayRead, RootReads, RootReadsNot, ReadsHeader, ReadsWhole, DecidesCreate, DecidesFreely, IsLockedCell, IsTooLong, HasNamesake, NamesForeignCpu, IsFree, pages_with, IsVerdictOn}
use Rattle.jh_laws.specs.Decisions.{NoneIsLocked, IsReadRefusal, IsCreateDecision}
use Rattle.jh_laws.specs.Moments.{AdmittedMoment, facts_before, state_before, cells_before}
use Rattle.jh_laws.proofs.DecisionLemmas.{decides}
use Rattle.jh_laws.proofs.HeldLemmas.{granted_to, to_granted_holds}
use Rattle.jh_laws.proofs.PageCauseLemmas.{sound_at}
use Rattle.jh_laws.proofs.PlaceWordLemmas.{state_number}

-- ---- what is read

-- one byte more
byte_more : (byte : Place → ℕ) (p : Place) (bs : List ℕ) (o : Option (List Place)) → option_map (map byte) o ≡ Some bs → option_map (map byte) (option_map (λ (ps : List Place). p ∷ ps) o) ≡ Some (byte p ∷ bs)
byte_more byte p bs None is = absurd (none-some bs is)
byte_more byte p bs (Some ps) is = ap (λ (xs : List ℕ). Some (byte p ∷ xs)) (same_Some (map byte ps) bs is)

bytes_read : (place : ℕ → Option Place) (byte : Place → ℕ) (at : ℕ) (bytes : List ℕ) → ((k : ℕ) → k < length bytes → (p : Place) × (place (at + k) ≡ Some p) × (get_or bytes k 0 ≡ byte p)) → option_map (map byte) (places_from place at (length bytes)) ≡ Some bytes
bytes_read place byte at [] each = refl
bytes_read place byte at (b ∷ bs) each =
    let first = each 0 (omega arith) in
    let here : place at ≡ Some first.0 = (let e : at ≡ at + 0 = omega arith in ap place e ∙ first.1) in
    let rest : option_map (map byte) (places_from place (at + 1) (length bs)) ≡ Some bs =
    bytes_read place byte (at + 1) bs
    (λ k lt. let one = each (suc k) (omega (arith, lt)) in let e : (at + 1) + k ≡ at + suc k = omega arith in (one.0, ap place e ∙ one.1, one.2)) in
    ap (λ (o : Option Place). option_map (map byte) (option_and_then (λ (p : Place). option_map (λ (ps : List Place). p ∷ ps) (places_from place (at + 1) (length bs))) o)) here
    ∙ byte_more byte first.0 bs (places_from place (at + 1) (length bs)) rest
    ∙ ap (λ (x : ℕ). Some (x ∷ bs)) (sym first.2)

none_behind : (o : Option Place) (rest : Option (List Place)) → rest ≡ None → option_and_then (λ (p : Place). option_map (λ (ps : List Place). p ∷ ps) rest) o ≡ None
none_behind None rest is = refl
none_behind (Some p) rest is = ap (option_map (λ (ps : List Place). p ∷ ps)) is

none_read : (place : ℕ → Option Place) (at count k : ℕ) → k < count → place (at + k) ≡ None → places_from place at count ≡ None
none_read place at zero k lt is = absurd (omega arith)
none_read place at (suc count) zero lt is =
    let e : at ≡ at + 0 = omega arith in
    ap (λ (o : Option Place). option_and_then (λ (p : Place). option_map (λ (ps : List Place). p ∷ ps) (places_from place (at + 1) count)) o) (ap place e ∙ is)
none_read place at (suc count) (suc k) lt is =
    let e : (at + 1) + k ≡ at + suc k = omega arith in
    none_behind (place at) (places_from place (at + 1) count) (none_read place (at + 1) count k (omega (arith, lt)) (ap place e ∙ is))

-- what root may read
abbrev root_place : AdmittedMoment → ℕ → Option Place
root_place m at = granted m.image (facts_before m) m.image.system.root.id ToRead at

reads_at : (m : AdmittedMoment) (at : ℕ) (bytes : List ℕ) → RootReads m at bytes → bytes_at m.image (facts_before m) at (length bytes) ≡ Some bytes
reads_at m at bytes reads =
    bytes_read (root_place m) (facts_before m).byte at bytes
    (λ k lt. let one = reads k lt in (one.0, granted_to m.image (facts_before m) m.image.system.root.id ToRead (at + k) one.0 (sound_at m).cells one.1, one.2))

not_granted : (m : AdmittedMoment) (at : ℕ) (o : Option Place) → root_place m at ≡ o → ((place : Place) → RootMayRead m at place → ⊥) → root_place m at ≡ None
not_granted m at None is none = is
not_granted m at (Some p) is none = absurd (none p (to_granted_holds m.image (facts_before m) m.image.system.root.id ToRead at p (sound_at m).cells is))

unread_at : (m : AdmittedMoment) (at count : ℕ) → RootReadsNot m at count → bytes_at m.image (facts_before m) at count ≡ None
unread_at m at count h = ap (option_map (map (facts_before m).byte)) (none_read (root_place m) at count h.0 h.1 (not_granted m (at + h.0) (root_place m (at + h.0)) refl h.2))

header_at : (m : AdmittedMoment) (at : ℕ) (header : List ℕ) → ReadsHeader m at header → bytes_at m.image (facts_before m) at 132 ≡ Some header
header_at m at header h = ap (bytes_at m.image (facts_before m) at) (sym h.long) ∙ reads_at m at header h.reads

-- the header of a whole
head_reads : (m : AdmittedMoment) (at : ℕ) (bytes : List ℕ) → ReadsWhole m at bytes → ReadsHeader m at (take 132 bytes)
head_reads m at bytes h =
    let some = h.some in
    let shorter : length (take 132 bytes) ≡ min 132 (length bytes) = length-take 132 bytes in
    record {
      reads = λ k lt.
          let one = h.reads k (omega (arith, shorter, lt, some)) in
          (one.0, one.1, get_or-take 132 bytes k 0 (omega (arith, shorter, lt)) ∙ one.2);
      long = omega (arith, shorter, some);
    }

-- ---- the Decide

decision_at : (m : AdmittedMoment) (at : ℕ) (refused : Option ℤ) → DecidesCreate m at refused → IsCreateDecision m.image (facts_before m) m.entry.cpu at refused
decision_at m at refused h = decides m.image m.form m.before m.rest m.entry (Create at) refused m.admitted m.legal h.begun h.act

none_locked : (m : AdmittedMoment) (at : ℕ) (refused : Option ℤ) → DecidesFreely m at refused → NoneIsLocked (facts_before m)
none_locked m at refused h live held locked =
    h.free live.config (Contains_map (λ (l : Live). l.config) (facts_before m).cells live held, sym (state_number (facts_before m) live.config.id) ∙ locked)

pub refuses_locked : (m : AdmittedMoment) (at : ℕ) (refused : Option ℤ) (config : CellConfig) → DecidesCreate m at refused → IsLockedCell m config → refused ≡ Some (negsuc 0)
refuses_locked m at refused config h locked =
    let f : Facts = facts_before m in
    let found = Contains_from_map (λ (l : Live). l.config) f.cells config locked.0 in
    let word : state_word f (id_of found.0) ≡ 1 = ap (λ (c : CellConfig). state_word f c.id) found.2 ∙ state_number f config.id ∙ locked.1 in
    (decision_at m at refused h).locked found.0 (found.1, word)

unread_of : (m : AdmittedMoment) (at : ℕ) (refused : Option ℤ) → DecidesFreely m at refused → IsReadRefusal m.image (facts_before m) at refused
unread_of m at refused h = (decision_at m at refused h.decides).unread (none_locked m at refused h)

pub refuses_unread : (m : AdmittedMoment) (at : ℕ) (refused : Option ℤ) → DecidesFreely m at refused → RootReadsNot m at 132 → refused ≡ Some (negsuc 21)
refuses_unread m at refused h none = (unread_of m at refused h).header (unread_at m at 132 none)

pub refuses_cut : (m : AdmittedMoment) (at : ℕ) (refused : Option ℤ) (header : List ℕ) → DecidesFreely m at refused → ReadsHeader m at header → header_fault header ≡ None → RootReadsNot m at (size_by_header header) → refused ≡ Some (negsuc 21)
refuses_cut m at refused header h reads good none = (unread_of m at refused h).rest header (header_at m at header reads) good (unread_at m at (size_by_header header) none)

long_number : (fault : ConfigFault) → IsTooLong fault → refused_for fault ≡ negsuc 6
long_number (Count Total found) is = refl
long_number (Count CpuSet found) is = absurd is
long_number (Count MemoryRegions found) is = absurd is
long_number (Count CacheRegions found) is = absurd is
long_number (Count Irqchips found) is = absurd is
long_number (Count PioRegions found) is = absurd is
long_number (Count PciDevices found) is = absurd is
long_number (Count PciCaps found) is = absurd is
long_number (Count StreamIds found) is = absurd is
long_number (Short need) is = absurd is
long_number Signature is = absurd is
long_number (Revision found) is = absurd is
long_number Name is = absurd is
long_number (Trailing extra) is = absurd is
long_number NoMemory is = absurd is

other_number : (fault : ConfigFault) → (IsTooLong fault → ⊥) → refused_for fault ≡ negsuc 21
other_number (Count Total found) other = absurd (other tt)
other_number (Count CpuSet found) other = refl
other_number (Count MemoryRegions found) other = refl
other_number (Count CacheRegions found) other = refl
other_number (Count Irqchips found) other = refl
other_number (Count PioRegions found) other = refl
other_number (Count PciDevices found) other = refl
other_number (Count PciCaps found) other = refl
other_number (Count StreamIds found) other = refl
other_number (Short need) other = refl
other_number Signature other = refl
other_number (Revision found) other = refl
other_number Name other = refl
other_number (Trailing extra) other = refl
other_number NoMemory other = refl

refuses_fault : (m : AdmittedMoment) (at : ℕ) (refused : Option ℤ) (header : List ℕ) (fault : ConfigFault) → DecidesFreely m at refused → ReadsHeader m at header → header_fault header ≡ Some fault → refused ≡ Some (refused_for fault)
refuses_fault m at refused header fault h reads is = (unread_of m at refused h).fault header fault (header_at m at header reads) is

pub refuses_long : (m : AdmittedMoment) (at : ℕ) (refused : Option ℤ) (header : List ℕ) (fault : ConfigFault) → DecidesFreely m at refused → ReadsHeader m at header → header_fault header ≡ Some fault → IsTooLong fault → refused ≡ Some (negsuc 6)
refuses_long m at refused header fault h reads is long = refuses_fault m at refused header fault h reads is ∙ ap (λ (n : ℤ). Some n) (long_number fault long)

pub refuses_faulty : (m : AdmittedMoment) (at : ℕ) (refused : Option ℤ) (header : List ℕ) (fault : ConfigFault) → DecidesFreely m at refused → ReadsHeader m at header → header_fault header ≡ Some fault → (IsTooLong fault → ⊥) → refused ≡ Some (negsuc 21)
refuses_faulty m at refused header fault h reads is other = refuses_fault m at refused header fault h reads is ∙ ap (λ (n : ℤ). Some n) (other_number fault other)

-- ---- causes

abbrev root_and_live : AdmittedMoment → List CellConfig
root_and_live m = m.image.system.root ∷ cells_before m

known_of : (m : AdmittedMoment) (config : CellConfig) → HasNamesake m config → is_known (root_and_live m) config ≡ true
known_of m config h =
    let among : Contains (root_and_live m) h.0 =
    ⊎_elim
    (λ (root : h.0 ≡ m.image.system.root). (let P : CellConfig → Type 0 = Contains (root_and_live m) in subst P (sym root) (Contains_head m.image.system.root (cells_before m))))
    (λ (live : Contains (cells_before m) h.0). Contains_tail m.image.system.root (cells_before m) h.0 live)
    h.1 in
    let same_id : Bool = eqb h.0.id config.id in
    let same_name : Bool = pointwise nat_eq (name_of h.0) (name_of config) in
    let alike : is_namesake config h.0 ≡ true =
    ⊎_elim
    (λ (id : h.0.id ≡ config.id). or_left same_id same_name (eq-eqb h.0.id config.id id))
    (λ (name : name_of h.0 ≡ name_of config). or_right same_id same_name ((bytes_eq-Decides (name_of h.0) (name_of config)).1 name))
    h.2 in
    list_any_from_Contains (is_namesake config) (root_and_live m) h.0 among alike

of_known : (m : AdmittedMoment) (config : CellConfig) → is_known (root_and_live m) config ≡ true → HasNamesake m config
of_known m config h =
    let found = IsFound_from_list_any (is_namesake config) (root_and_live m) h in
    let other : CellConfig = found.0 in (
      other,
      ⊎_elim (λ (root : m.image.system.root ≡ other). inl (sym root)) (λ (live : Contains (cells_before m) other). inr live) (Contains_cases m.image.system.root (cells_before m) other found.1.among),
      ⊎_elim
          (λ id. inl (eqb-true other.id config.id id))
          (λ name. inr ((bytes_eq-Decides (name_of other) (name_of config)).0 name))
          (or_cases (eqb other.id config.id) (pointwise nat_eq (name_of other) (name_of config)) found.1.passes),
    )

-- the caller can't give the CPU
abbrev IsForeign : AdmittedMoment → ℕ → Type 0
IsForeign m cpu = (is_on_board m.image cpu ≡ false) ⊎ (cpu ≡ m.entry.cpu) ⊎ ((state_before m cpu).owner ≢ m.image.system.root.id)

abbrev gives : AdmittedMoment → ℕ → Bool
gives m cpu = may_give m.image (facts_before m) m.entry.cpu cpu

foreign_kept : (m : AdmittedMoment) (cpu : ℕ) → IsForeign m cpu → gives m cpu ≡ false
foreign_kept m cpu h =
    let on : Bool = is_on_board m.image cpu in
    let other : Bool = not (eqb cpu m.entry.cpu) in
    let roots : Bool = eqb (state_before m cpu).owner m.image.system.root.id in
    ⊎_elim
    (λ absent. and_left (on && other) roots (and_left on other absent))
    (λ more. ⊎_elim
    (λ own. and_left (on && other) roots (and_right on other (ap not (eq-eqb cpu m.entry.cpu own))))
    (λ apart. and_right (on && other) roots (ne_eqb (state_before m cpu).owner m.image.system.root.id apart))
    more)
    h

kept_foreign : (m : AdmittedMoment) (cpu : ℕ) → gives m cpu ≡ false → (IsForeign m cpu → ⊥) → ⊥
kept_foreign m cpu kept none =
    let on : Bool = is_on_board m.image cpu in
    let other : Bool = not (eqb cpu m.entry.cpu) in
    let roots : Bool = eqb (state_before m cpu).owner m.image.system.root.id in
    let is_on : on ≡ true = ⊎_elim (λ (yes : on ≡ true). yes) (λ (no : on ≡ false). absurd (none (inl no))) (cases_Bool on) in
    let is_other : other ≡ true = ap not (ne_eqb cpu m.entry.cpu (λ own. none (inr (inl own)))) in
    let is_roots : roots ≡ true =
    ⊎_elim (λ (yes : roots ≡ true). yes)
    (λ (no : roots ≡ false). absurd (none (inr (inr (λ same. both_ways roots no (eq-eqb (state_before m cpu).owner m.image.system.root.id same))))))
    (cases_Bool roots) in
    both_ways (gives m cpu) kept (and_from (on && other) roots (and_from on other is_on is_other) is_roots)

beyond_of : (m : AdmittedMoment) (config : CellConfig) → NamesForeignCpu m config → names_beyond (gives m) config.cpu_set ≡ true
beyond_of m config h = named_beyond (gives m) config.cpu_set h.0 h.1 (foreign_kept m h.0 h.2)

none_beyond : (m : AdmittedMoment) (config : CellConfig) → (NamesForeignCpu m config → ⊥) → names_beyond (gives m) config.cpu_set ≡ false
none_beyond m config none =
    false_from_ne_true (names_beyond (gives m) config.cpu_set)
    (λ yes. let one = beyond_named (gives m) config.cpu_set yes in kept_foreign m one.0 one.2 (λ foreign. none (one.0, one.1, foreign)))

none_known : (m : AdmittedMoment) (config : CellConfig) → (HasNamesake m config → ⊥) → is_known (root_and_live m) config ≡ false
none_known m config none = false_from_ne_true (is_known (root_and_live m) config) (λ yes. none (of_known m config yes))

-- the number by its causes
abbrev refusal_at : AdmittedMoment → CellConfig → Option ℤ
refusal_at m config = refusal_of m.image.system (cells_before m) config (gives m) (pages_with m config) (pool_pages m.image.system)

at_known : (m : AdmittedMoment) (config : CellConfig) → is_known (root_and_live m) config ≡ true → refusal_at m config ≡ Some (negsuc 16)
unfolding refusal_of
at_known m config known = rw known refl

at_foreign : (m : AdmittedMoment) (config : CellConfig) → is_known (root_and_live m) config ≡ false → names_beyond (gives m) config.cpu_set ≡ true → refusal_at m config ≡ Some (negsuc 15)
unfolding refusal_of
at_foreign m config unknown foreign = rw (unknown, foreign) refl

at_check : (m : AdmittedMoment) (config : CellConfig) → IsFree m config → refusal_at m config ≡ by_check (verdict_of m.image.system (cells_before m) config) (cond (nat_lt (pool_pages m.image.system) (pages_with m config)) (Some (negsuc 11)) None)
unfolding refusal_of
at_check m config free = rw (none_known m config free.alone, none_beyond m config free.own) refl

at_verdict : (m : AdmittedMoment) (config : CellConfig) (verdict : NewCell) → IsFree m config → verdict_of m.image.system (cells_before m) config ≡ verdict → refusal_at m config ≡ by_check verdict (cond (nat_lt (pool_pages m.image.system) (pages_with m config)) (Some (negsuc 11)) None)
at_verdict m config verdict free is = at_check m config free ∙ ap (λ (v : NewCell). by_check v (cond (nat_lt (pool_pages m.image.system) (pages_with m config)) (Some (negsuc 11)) None)) is

pub verdict_on : (m : AdmittedMoment) (at : ℕ) (refused : Option ℤ) (bytes : List ℕ) → DecidesFreely m at refused → ReadsWhole m at bytes → IsVerdictOn m (config_of bytes) refused
verdict_on m at refused bytes h whole =
    let f : Facts = facts_before m in
    let config : CellConfig = config_of bytes in
    let pool : ℕ = pool_pages m.image.system in
    let pages : ℕ = pages_with m config in
    let head : List ℕ = take 132 bytes in
    let all : bytes_at m.image f at (size_by_header head) ≡ Some bytes = ap (bytes_at m.image f at) whole.long ∙ reads_at m at bytes whole.reads in
    let cause : refused ≡ refusal_at m config = ((decision_at m at refused h.decides).read (none_locked m at refused h) head bytes (header_at m at head (head_reads m at bytes whole)) whole.good all).cause in
    record {
      known = λ namesake. cause ∙ at_known m config (known_of m config namesake);
      foreign = λ alone names. cause ∙ at_foreign m config (none_known m config alone) (beyond_of m config names);
      invalid = λ free is. cause ∙ at_verdict m config Invalid free is;
      busy = λ free is. cause ∙ at_verdict m config Busy free is;
      pages = λ free is more. cause ∙ at_verdict m config Clean free is ∙ ap (λ (b : Bool). cond b (Some (negsuc 11)) None) (lt-ltb pool pages more);
      goes = λ free is few. cause ∙ at_verdict m config Clean free is ∙ ap (λ (b : Bool). cond b (Some (negsuc 11)) None) (le-ltb pool pages few);
    }
