-- Words of state tables: which bytes they are, and that a word which becomes 0 is 0.
use Rattle.std.proofs.Common.{◌≡◌, ◌≢◌, ℕ, zero, suc, ◌+◌, ◌-◌, ◌/◌, ◌%◌, ◌^◌, ◌<◌, List, [], ◌∷◌, Option, Some, None, Bool, true, false, cond, not, ◌&&◌, eqb, refl, sym, ap, subst, ◌∙◌, inl, inr, ⊎_elim, arith}
use Rattle.std.specs.Prelude.{◌⊎◌, Contains}
use Rattle.std.specs.Option.{option_map_or}
use Rattle.std.proofs.lemmas.Bool.{both_ways, and_parts, cases_lt, eqb-true, eq-eqb, ne_eqb, not-true, false≢true}
use Rattle.std.proofs.lemmas.Option.{none-some, same_Some}
use Rattle.jh_num.proofs.Public.{Contains_head, Contains_tail, Contains_cases}
use Rattle.jh_cellcfg.specs.declared.config.CellConfig.{CellConfig}
use Rattle.jh_cellcfg.specs.declared.live.Live.{Live}
use Rattle.jh_ivshmem.specs.declared.spec.EndpointSpec.{EndpointSpec}
use Rattle.jh_ivshmem.specs.declared.spec.EndpointWord.{EndpointWord}
use Rattle.jh_ivshmem.specs.declared.endpoint.Endpoint.{Endpoint}
use Rattle.jh_ivshmem.specs.Links.{endpoint_word_written}
use Rattle.jh_ivshmem.specs.Specs.{endpoint_word_of}
use Rattle.jh_history.specs.declared.place.Place.{Place}
use Rattle.jh_history.specs.declared.place.Place.TheVariants.{Physical, Page}
use Rattle.jh_history.specs.declared.call.OpenCall.{OpenCall}
use Rattle.jh_history.specs.declared.entry.Act.{Act}
use Rattle.jh_history.specs.declared.entry.Act.TheVariants.{Commit}
use Rattle.jh_history.specs.Facts.{Facts}
use Rattle.jh_history.specs.Devices.{specs_of}
use Rattle.jh_history.specs.Places.{number_of, places_in_row, written}
use Rattle.jh_history.specs.Access.{with_endpoint_word}
use Rattle.jh_history.specs.Endpoints.{changing_at, changing_by, specs_changing, with_words}
use Rattle.jh_history.proofs.Public.{same_function, written_over}
use Rattle.jh_history.specs.Commits.{is_commit}
use Rattle.jh_laws.proofs.ListedLemmas.{over_at, over_other, listed}

-- the place is one of physical memory
abbrev pub is_physical : Place → Bool
is_physical (Physical p) = true
is_physical (Page cell offset) = false

-- ---- one word

row_words : (p n : ℕ) → places_in_row (Physical p) n ≡ listed (λ k. Physical (p + k)) n
row_words p zero = refl
row_words p (suc n) =
    let first : p ≡ p + 0 = omega arith in
    let rest : (λ k. Physical ((p + 1) + k)) ≡ (λ k. Physical (p + (k + 1))) = same_function (λ k. Physical ((p + 1) + k)) (λ k. Physical (p + (k + 1)))
    (λ k. let e : (p + 1) + k ≡ p + (k + 1) = omega arith in ap Physical e) in
    ap (λ (ps : List Place). Physical p ∷ ps) (row_words (p + 1) n)
    ∙ ap (λ (f : ℕ → Place). Physical p ∷ listed f n) rest
    ∙ ap (λ (a : ℕ). Physical a ∷ listed (λ k. Physical (p + (k + 1))) n) first

-- the place is that of the word's byte with that number
abbrev pub IsByteAt : EndpointWord → Place → ℕ → Type 0
IsByteAt word q k = (k < 4) × (q ≡ Physical (word.place + k))

-- none of its bytes is there
abbrev pub IsApart : EndpointWord → Place → Type 0
IsApart word q = (k : ℕ) → k < 4 → q ≢ Physical (word.place + k)

pub endpoint_word_cases : (word : EndpointWord) (q : Place) → ((k : ℕ) × IsByteAt word q k) ⊎ IsApart word q
endpoint_word_cases word (Page cell offset) = inr (λ k lt e. false≢true (ap is_physical e))
endpoint_word_cases word (Physical p) = elim (cases_lt p word.place) [
  | inl below ↦ inr (λ k lt e. let same : p ≡ word.place + k = ap number_of e in omega arith)
  | inr low ↦ elim (cases_lt p (word.place + 4)) [
    | inl within ↦ (let same : p ≡ word.place + (p - word.place) = omega arith in inl (p - word.place, (omega arith, ap Physical same)))
    | inr above ↦ inr (λ k lt e. let same : p ≡ word.place + k = ap number_of e in omega arith)
  ]
]

pub endpoint_word_at : (word : EndpointWord) (byte : Place → ℕ) (q : Place) (k : ℕ) → IsByteAt word q k → with_endpoint_word word byte q ≡ word.value / 256 ^ k % 256
endpoint_word_at word byte q k h =
    let place : ℕ → Place = λ i. Physical (word.place + i) in
    ap (λ (ps : List Place). written byte ps word.value q) (row_words word.place 4)
    ∙ written_over byte (listed place 4) word.value q
    ∙ over_at place 4 word.value q (byte q) k h.0 h.1 (λ j lt is. let e : word.place + j ≡ word.place + k = ap number_of (sym is ∙ h.1) in omega arith)

pub endpoint_word_other : (word : EndpointWord) (byte : Place → ℕ) (q : Place) → IsApart word q → with_endpoint_word word byte q ≡ byte q
endpoint_word_other word byte q none =
    let place : ℕ → Place = λ i. Physical (word.place + i) in
    ap (λ (ps : List Place). written byte ps word.value q) (row_words word.place 4)
    ∙ written_over byte (listed place 4) word.value q
    ∙ over_other place 4 word.value q (byte q) none

-- ---- words that become 0

pub zero_byte : (k : ℕ) → k < 4 → 0 / 256 ^ k % 256 ≡ 0
zero_byte zero lt = refl
zero_byte (suc zero) lt = refl
zero_byte (suc (suc zero)) lt = refl
zero_byte (suc (suc (suc zero))) lt = refl
zero_byte (suc (suc (suc (suc k)))) lt = absurd (omega arith)

endpoint_word_zero : (s : EndpointSpec) (byte : Place → ℕ) (q : Place) (k : ℕ) → IsByteAt (endpoint_word_of s 0) q k → with_endpoint_word (endpoint_word_of s 0) byte q ≡ 0
endpoint_word_zero s byte q k h = endpoint_word_at (endpoint_word_of s 0) byte q k h ∙ zero_byte k h.0

zero_over : (s : EndpointSpec) (byte : Place → ℕ) (q : Place) → byte q ≡ 0 → with_endpoint_word (endpoint_word_of s 0) byte q ≡ 0
zero_over s byte q is =
    ⊎_elim
    (λ (there : (k : ℕ) × IsByteAt (endpoint_word_of s 0) q k). endpoint_word_zero s byte q there.0 there.1)
    (λ (apart : IsApart (endpoint_word_of s 0) q). endpoint_word_other (endpoint_word_of s 0) byte q apart ∙ is)
    (endpoint_word_cases (endpoint_word_of s 0) q)

words_zero : (specs : List EndpointSpec) (byte : Place → ℕ) (q : Place) → byte q ≡ 0 → with_words specs byte q ≡ 0
words_zero [] byte q is = is
words_zero (s ∷ specs) byte q is = words_zero specs (with_endpoint_word (endpoint_word_of s 0) byte) q (zero_over s byte q is)

pub words_put : (specs : List EndpointSpec) (byte : Place → ℕ) (spec : EndpointSpec) (q : Place) (k : ℕ) → Contains specs spec → IsByteAt (endpoint_word_of spec 0) q k → with_words specs byte q ≡ 0
words_put [] byte spec q k held there = let below : held.0 < 0 = held.1 in absurd (omega arith)
words_put (s ∷ specs) byte spec q k held there =
    ⊎_elim
    (λ (same : s ≡ spec).
    let P : EndpointSpec → Type 0 = λ t. IsByteAt (endpoint_word_of t 0) q k in
    words_zero specs (with_endpoint_word (endpoint_word_of s 0) byte) q (endpoint_word_zero s byte q k (subst P (sym same) there)))
    (λ (later : Contains specs spec). words_put specs (with_endpoint_word (endpoint_word_of s 0) byte) spec q k later there)
    (Contains_cases s specs spec held)

-- none of these words has the place
abbrev pub AreApart : List EndpointSpec → Place → Type 0
AreApart specs q = (spec : EndpointSpec) → Contains specs spec → IsApart (endpoint_word_of spec 0) q

pub words_kept : (specs : List EndpointSpec) (byte : Place → ℕ) (q : Place) → AreApart specs q → with_words specs byte q ≡ byte q
words_kept [] byte q apart = refl
words_kept (s ∷ specs) byte q apart =
    words_kept specs (with_endpoint_word (endpoint_word_of s 0) byte) q (λ spec later. apart spec (Contains_tail s specs spec later))
    ∙ endpoint_word_other (endpoint_word_of s 0) byte q (apart s (Contains_head s specs))

-- the place is in one of them
pub record IsInWords (specs : List EndpointSpec) (q : Place) : Type 0 where
  pub spec : EndpointSpec
  pub among : Contains specs spec
  pub index : ℕ
  pub there : IsByteAt (endpoint_word_of spec 0) q index

-- a place is in one of them, or in none
pub words_or : (specs : List EndpointSpec) (q : Place) → IsInWords specs q ⊎ AreApart specs q
words_or [] q = inr (λ spec held. let below : held.0 < 0 = held.1 in absurd (omega arith))
words_or (s ∷ specs) q =
    ⊎_elim
    (λ (there : (k : ℕ) × IsByteAt (endpoint_word_of s 0) q k). inl (record { spec = s; among = Contains_head s specs; index = there.0; there = there.1 }))
    (λ (apart : IsApart (endpoint_word_of s 0) q).
    ⊎_elim
    (λ (rest : IsInWords specs q). inl (record { spec = rest.spec; among = Contains_tail s specs rest.spec rest.among; index = rest.index; there = rest.there }))
    (λ (others : AreApart specs q).
    inr (λ spec held.
    let P : EndpointSpec → Type 0 = λ t. IsApart (endpoint_word_of t 0) q in
    ⊎_elim (λ (same : s ≡ spec). subst P same apart) (λ (later : Contains specs spec). others spec later) (Contains_cases s specs spec held)))
    (words_or specs q))
    (endpoint_word_cases (endpoint_word_of s 0) q)

-- no page has one
pub words_page : (specs : List EndpointSpec) (byte : Place → ℕ) (cell offset : ℕ) → with_words specs byte (Page cell offset) ≡ byte (Page cell offset)
words_page specs byte cell offset = words_kept specs byte (Page cell offset) (λ spec held k lt e. false≢true (ap is_physical e))

-- ---- the state register

-- the word that a write to the state register puts
pub state_word : (e : Endpoint) (value : ℕ) → value ≢ e.state → endpoint_word_written e 0 0x10 value ≡ Some (endpoint_word_of e.spec value)
unfolding endpoint_word_written
state_word e value other = ap (λ (b : Bool). cond (not b) (Some (endpoint_word_of e.spec value)) None) (ne_eqb e.state value (λ same. other (sym same)))

-- a value of four bytes is the number of 32 bits that it is
pub value_fits : (width value : ℕ) → width ≡ 4 → value < 256 ^ width → value % 2 ^ 32 ≡ value
value_fits width value four small =
    let P : ℕ → Type 0 = λ n. value < 256 ^ n in
    let below : value < 256 ^ 4 = subst P four small in
    omega arith

-- a word that a write to a register puts is that of the state register
pub record IsStatePut (e : Endpoint) (bar offset value : ℕ) (word : EndpointWord) : Type 0 where
  pub bar_is : bar ≡ 0
  pub offset_is : offset ≡ 0x10
  pub other : value ≢ e.state
  pub is : word ≡ endpoint_word_of e.spec value

pub state_put : (e : Endpoint) (bar offset value : ℕ) (word : EndpointWord) → endpoint_word_written e bar offset value ≡ Some word → IsStatePut e bar offset value word
unfolding endpoint_word_written
state_put e bar offset value word is = put_with (((eqb bar 0) && (eqb offset 0x10)) && not (eqb e.state value)) refl is
  where
    put_with : (b : Bool) → (((eqb bar 0) && (eqb offset 0x10)) && not (eqb e.state value)) ≡ b → cond b (Some (endpoint_word_of e.spec value)) None ≡ Some word → IsStatePut e bar offset value word
    put_with true passes found =
        let parts = and_parts ((eqb bar 0) && (eqb offset 0x10)) (not (eqb e.state value)) passes in
        let places = and_parts (eqb bar 0) (eqb offset 0x10) parts.0 in
        record {
          bar_is = eqb-true bar 0 places.0;
          offset_is = eqb-true offset 0x10 places.1;
          other = λ same. both_ways (eqb e.state value) (not-true (eqb e.state value) parts.1) (eq-eqb e.state value (sym same));
          is = sym (same_Some (endpoint_word_of e.spec value) word found);
        }
    put_with false passes found = absurd (none-some word found)

-- ---- who changes words

-- a Commit alone changes the devices of a cell
unchanged_by : (cells : List Live) (o : OpenCall) (act : Act) → is_commit act ≡ false → changing_at cells o act ≡ None
unchanged_by cells o Commit other = absurd (false≢true (sym other))
unchanged_by cells o _ other = refl

unchanged_at : (cells : List Live) (call : Option OpenCall) (act : Act) → is_commit act ≡ false → changing_by cells call act ≡ None
unchanged_at cells None act other = refl
unchanged_at cells (Some o) act other = unchanged_by cells o act other

pub specs_none : (f : Facts) (act : Act) → is_commit act ≡ false → specs_changing f act ≡ []
specs_none f act other = ap (λ (o : Option CellConfig). option_map_or specs_of o []) (unchanged_at f.cells f.call act other)
