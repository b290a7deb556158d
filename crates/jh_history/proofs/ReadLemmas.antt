-- Reading a configuration byte by byte.
use Rattle.std.proofs.Common.{◌≡◌, ℕ, zero, suc, ◌+◌, ◌-◌, ◌*◌, ◌<◌, ◌≤◌, List, [], ◌∷◌, ◌++◌, Bool, true, false, Option, Some, None, map, length, refl, sym, ap, subst, ◌∙◌, inl, inr, arith}
use Rattle.std.specs.Prelude.{option_map, option_and_then}
use Rattle.jh_num.specs.declared.address.TheConstants.{ADDRESS_END}
use Rattle.jh_script.specs.declared.image.Image.{Image}
use Rattle.jh_history.specs.declared.place.Place.{Place}
use Rattle.jh_history.specs.declared.access.Access.TheVariants.{Read}
use Rattle.jh_history.specs.Access.{gives, place_in_cell, region_of, place_of, places_from, memory_or_nothing, reach_by, memory_read}
use Rattle.jh_history.specs.Facts.{Facts}
use Rattle.jh_history.specs.Grants.{unless, granted_by, granted}
use Rattle.jh_history.specs.Configs.{bytes_at, read_at, read_cell}
use Rattle.jh_history.specs.ReadView.{bytes_by, read_by}
use Rattle.jh_cellcfg.specs.declared.region.Region.{Region}
use Rattle.jh_cellcfg.specs.Regions.{IsInRange, IsEmptyOrInRange, AreInRange}
use Rattle.jh_cellcfg.proofs.Public.{has_address_last, has_some}
use Rattle.std.proofs.lemmas.Bool.{cases_lt, both_ways}
use Rattle.jh_history.specs.declared.access.Reach.{Reach}
use Rattle.jh_history.specs.declared.access.Reach.TheVariants.{Memory, Nothing}
use Rattle.std.proofs.lemmas.Option.{none-some, same_Some}
use Rattle.std.proofs.lemmas.List.{append_assoc}
use Rattle.jh_num.proofs.Public.{IsFound_from_find}
use Rattle.jh_history.proofs.AccessLemmas.{reach_by_within, reach_by_beyond}
use Rattle.jh_history.proofs.GrantLemmas.{region_of_has}
use Rattle.jh_history.proofs.FactsLemmas.{same_function}

abbrev Bytes : Type 0
Bytes = Option (List ℕ)

abbrev pub with_last : Bytes → Option ℕ → Bytes
with_last low last = option_and_then (λ (bs : List ℕ). option_map (λ (b : ℕ). bs ++ b ∷ []) last) low

last_one : (o : Option ℕ) → option_and_then (λ (b : ℕ). option_map (λ (bs : List ℕ). b ∷ bs) (Some [])) o ≡ with_last (Some []) o
last_one None = refl
last_one (Some b) = refl

last_more : (first : Option ℕ) (low : Bytes) (last : Option ℕ) (whole : Bytes) → whole ≡ with_last low last
    → option_and_then (λ (b : ℕ). option_map (λ (bs : List ℕ). b ∷ bs) whole) first ≡ with_last (option_and_then (λ (b : ℕ). option_map (λ (bs : List ℕ). b ∷ bs) low) first) last
last_more None low last whole e = refl
last_more (Some x) None last whole e = ap (option_map (λ (bs : List ℕ). x ∷ bs)) e
last_more (Some x) (Some bs) None whole e = ap (option_map (λ (bs : List ℕ). x ∷ bs)) e
last_more (Some x) (Some bs) (Some b) whole e = ap (option_map (λ (bs : List ℕ). x ∷ bs)) e

-- one byte more at the end
pub bytes_by_last : (byte : ℕ → Option ℕ) (at k : ℕ) → bytes_by byte at (suc k) ≡ with_last (bytes_by byte at k) (byte (at + k))
bytes_by_last byte at zero = last_one (byte at) ∙ (let e : at ≡ at + 0 = omega arith in ap (λ (a : ℕ). with_last (Some []) (byte a)) e)
bytes_by_last byte at (suc k) =
    last_more (byte at) (bytes_by byte (at + 1) k) (byte ((at + 1) + k)) (bytes_by byte (at + 1) (suc k)) (bytes_by_last byte (at + 1) k)
    ∙ (let e : (at + 1) + k ≡ at + suc k = omega arith in ap (λ (a : ℕ). with_last (bytes_by byte at (suc k)) (byte a)) e)

-- where one may not be read
lacks : (o : Option ℕ) → option_and_then (λ (b : ℕ). option_map (λ (bs : List ℕ). b ∷ bs) None) o ≡ None
lacks None = refl
lacks (Some b) = refl

pub bytes_by_missing : (byte : ℕ → Option ℕ) (at k n : ℕ) → k < n → byte (at + k) ≡ None → bytes_by byte at n ≡ None
bytes_by_missing byte at k zero lt none = absurd (omega arith)
bytes_by_missing byte at zero (suc n) lt none =
    let here : byte at ≡ None = (let e : at ≡ at + 0 = omega arith in ap byte e) ∙ none in
    ap (option_and_then (λ (b : ℕ). option_map (λ (bs : List ℕ). b ∷ bs) (bytes_by byte (at + 1) n))) here
bytes_by_missing byte at (suc k) (suc n) lt none =
    let rest : bytes_by byte (at + 1) n ≡ None = bytes_by_missing byte (at + 1) k n (omega arith) ((let e : (at + 1) + k ≡ at + suc k = omega arith in ap byte e) ∙ none) in
    ap (λ (o : Bytes). option_and_then (λ (b : ℕ). option_map (λ (bs : List ℕ). b ∷ bs) o) (byte at)) rest ∙ lacks (byte at)

-- one row behind another
abbrev pub joined : Bytes → Bytes → Bytes
joined low high = option_and_then (λ (bs : List ℕ). option_map (λ (cs : List ℕ). bs ++ cs) high) low

join_first : (first : Option ℕ) (low high : Bytes)
    → option_and_then (λ (b : ℕ). option_map (λ (bs : List ℕ). b ∷ bs) (joined low high)) first ≡ joined (option_and_then (λ (b : ℕ). option_map (λ (bs : List ℕ). b ∷ bs) low) first) high
join_first None low high = refl
join_first (Some b) None high = refl
join_first (Some b) (Some bs) None = refl
join_first (Some b) (Some bs) (Some cs) = refl

join_none : (high : Bytes) → high ≡ joined (Some []) high
join_none None = refl
join_none (Some cs) = refl

pub bytes_by_joined : (byte : ℕ → Option ℕ) (at k n : ℕ) → bytes_by byte at (k + n) ≡ joined (bytes_by byte at k) (bytes_by byte (at + k) n)
bytes_by_joined byte at zero n =
    (let e : 0 + n ≡ n = omega arith in ap (bytes_by byte at) e)
    ∙ (let e : at ≡ at + 0 = omega arith in ap (λ (a : ℕ). bytes_by byte a n) e)
    ∙ join_none (bytes_by byte (at + 0) n)
bytes_by_joined byte at (suc k) n =
    (let e : suc k + n ≡ suc (k + n) = omega arith in ap (bytes_by byte at) e)
    ∙ ap (λ (o : Bytes). option_and_then (λ (b : ℕ). option_map (λ (bs : List ℕ). b ∷ bs) o) (byte at)) (bytes_by_joined byte (at + 1) k n)
    ∙ join_first (byte at) (bytes_by byte (at + 1) k) (bytes_by byte ((at + 1) + k) n)
    ∙ (let e : (at + 1) + k ≡ at + suc k = omega arith in ap (λ (a : ℕ). joined (bytes_by byte at (suc k)) (bytes_by byte a n)) e)

join_lacking : (low : Bytes) → joined low None ≡ None
join_lacking None = refl
join_lacking (Some bs) = refl

-- where a row may not be read
pub bytes_by_lacking : (byte : ℕ → Option ℕ) (at k n whole : ℕ) → k + n ≤ whole → bytes_by byte (at + k) n ≡ None → bytes_by byte at whole ≡ None
bytes_by_lacking byte at k n whole within none =
    let rest : ℕ = whole - (k + n) in
    let low : bytes_by byte at (k + n) ≡ None = bytes_by_joined byte at k n ∙ ap (joined (bytes_by byte at k)) none ∙ join_lacking (bytes_by byte at k) in
    (let e : whole ≡ (k + n) + rest = omega arith in ap (bytes_by byte at) e)
    ∙ bytes_by_joined byte at (k + n) rest
    ∙ ap (λ (o : Bytes). joined o (bytes_by byte (at + (k + n)) rest)) low

-- one byte more behind a row that is put behind others
grown : (old items : List ℕ) (b : ℕ) (low : Bytes) → option_map (λ (row : List ℕ). old ++ row) low ≡ Some items → option_map (λ (row : List ℕ). old ++ row) (with_last low (Some b)) ≡ Some (items ++ b ∷ [])
grown old items b None e = absurd (none-some items e)
grown old items b (Some row) e = ap Some (sym (append_assoc old row (b ∷ [])) ∙ ap (λ (xs : List ℕ). xs ++ b ∷ []) (same_Some (old ++ row) items e))

pub bytes_by_grown : (byte : ℕ → Option ℕ) (at k b : ℕ) (old items : List ℕ) → option_map (λ (row : List ℕ). old ++ row) (bytes_by byte at k) ≡ Some items → byte (at + k) ≡ Some b
    → option_map (λ (row : List ℕ). old ++ row) (bytes_by byte at (k + 1)) ≡ Some (items ++ b ∷ [])
bytes_by_grown byte at k b old items low last =
    ap (option_map (λ (row : List ℕ). old ++ row)) ((let e : k + 1 ≡ suc k = omega arith in ap (bytes_by byte at) e) ∙ bytes_by_last byte at k ∙ ap (with_last (bytes_by byte at k)) last)
    ∙ grown old items b (bytes_by byte at k) low

row_none : (old : List ℕ) (row : Bytes) → option_map (λ (bs : List ℕ). old ++ bs) row ≡ None → row ≡ None
row_none old None e = refl
row_none old (Some bs) e = absurd (none-some (old ++ bs) (sym e))

pub bytes_by_row : (byte : ℕ → Option ℕ) (at k n : ℕ) (old new : List ℕ) → bytes_by byte at k ≡ Some old → option_map (λ (bs : List ℕ). old ++ bs) (bytes_by byte (at + k) n) ≡ Some new → bytes_by byte at (k + n) ≡ Some new
bytes_by_row byte at k n old new low high = bytes_by_joined byte at k n ∙ ap (λ (o : Bytes). joined o (bytes_by byte (at + k) n)) low ∙ high

pub bytes_by_no_row : (byte : ℕ → Option ℕ) (at k n whole : ℕ) (old : List ℕ) → k + n ≤ whole → option_map (λ (bs : List ℕ). old ++ bs) (bytes_by byte (at + k) n) ≡ None → bytes_by byte at whole ≡ None
bytes_by_no_row byte at k n whole old within e = bytes_by_lacking byte at k n whole within (row_none old (bytes_by byte (at + k) n) e)

-- the bytes at places
one_place : (f : Place → ℕ) (o : Option Place) (rest : Option (List Place))
    → option_and_then (λ (b : ℕ). option_map (λ (bs : List ℕ). b ∷ bs) (option_map (map f) rest)) (option_map f o) ≡ option_map (map f) (option_and_then (λ (p : Place). option_map (λ (ps : List Place). p ∷ ps) rest) o)
one_place f None rest = refl
one_place f (Some p) None = refl
one_place f (Some p) (Some ps) = refl

pub bytes_by_places : (f : Place → ℕ) (place : ℕ → Option Place) (at n : ℕ) → bytes_by (λ a. option_map f (place a)) at n ≡ option_map (map f) (places_from place at n)
bytes_by_places f place at zero = refl
bytes_by_places f place at (suc n) =
    ap (λ (o : Bytes). option_and_then (λ (b : ℕ). option_map (λ (bs : List ℕ). b ∷ bs) o) (option_map f (place at))) (bytes_by_places f place (at + 1) n)
    ∙ one_place f (place at) (places_from place (at + 1) n)

bytes_by_is : (image : Image) (f : Facts) (byte : ℕ → Option ℕ) (at n : ℕ) → ((a : ℕ) → byte a ≡ option_map f.byte (granted image f image.system.root.id Read a)) → bytes_by byte at n ≡ bytes_at image f at n
bytes_by_is image f byte at n each =
    ap (λ (b : ℕ → Option ℕ). bytes_by b at n) (same_function byte (λ a. option_map f.byte (granted image f image.system.root.id Read a)) each)
    ∙ bytes_by_places f.byte (granted image f image.system.root.id Read) at n

-- so it is what a create reads
pub read_by_is : (image : Image) (f : Facts) (byte : ℕ → Option ℕ) (at : ℕ) → ((a : ℕ) → byte a ≡ option_map f.byte (granted image f image.system.root.id Read a)) → read_by byte at ≡ read_at image f at
unfolding read_at
read_by_is image f byte at each =
    ap read_cell (same_function (bytes_by byte at) (bytes_at image f at) (λ n. bytes_by_is image f byte at n each))

-- ---- a byte that is reached

-- where no region gives the address, none is granted

beyond_by : (id : ℕ) (regions : List Region) (kept : Place → Bool) (at : ℕ) (o : Option Region) → region_of regions Read at ≡ o → AreInRange regions → ADDRESS_END ≤ at → granted_by id regions kept Read at ≡ None
unfolding place_of
beyond_by id regions kept at None e within le = ap (λ (o : Option Region). option_and_then (unless kept) (option_map (λ (r : Region). place_in_cell id r at) o)) e
beyond_by id regions kept at (Some r) e within le =
    let has = region_of_has regions Read at r e in
    let held = (IsFound_from_find (gives Read at) regions r e).among in
    let range : IsInRange r = subst IsEmptyOrInRange held.2 (within held.0 r held.1) (has_some r at has) in
    let above = has_address_last r at has in
    let end = range.virt in
    absurd (omega arith)

pub granted_beyond : (id : ℕ) (regions : List Region) (kept : Place → Bool) (at : ℕ) → AreInRange regions → ADDRESS_END ≤ at → granted_by id regions kept Read at ≡ None
granted_beyond id regions kept at within le = beyond_by id regions kept at (region_of regions Read at) refl within le

spelled_one : (b : ℕ) → b + 256 * 0 ≡ b
spelled_one b = omega arith

one_read : (f : Place → ℕ) (o : Option Place) → memory_read f (memory_or_nothing (option_and_then (λ (p : Place). option_map (λ (ps : List Place). p ∷ ps) (Some [])) o)) ≡ option_map f o
one_read f None = refl
one_read f (Some p) = ap Some (spelled_one (f p))

-- what an access of one byte reads
pub read_one : (f : Place → ℕ) (place : ℕ → Option Place) (at : ℕ) → ((a : ℕ) → ADDRESS_END ≤ a → place a ≡ None) → memory_read f (reach_by place at 1) ≡ option_map f (place at)
read_one f place at beyond = elim (cases_lt at ADDRESS_END) [
  | inl lt ↦ ap (memory_read f) (reach_by_within place at 1 (omega arith)) ∙ one_read f (place at)
  | inr le ↦ ap (memory_read f) (reach_by_beyond place at 1 (omega arith)) ∙ sym (ap (option_map f) (beyond at le))
]

-- how many they are
length_by : (o : Option ℕ) (rest : Bytes) (n : ℕ) → ((xs : List ℕ) → rest ≡ Some xs → length xs ≡ n) → (bs : List ℕ) → option_and_then (λ (b : ℕ). option_map (λ (xs : List ℕ). b ∷ xs) rest) o ≡ Some bs → length bs ≡ suc n
length_by None rest n h bs e = absurd (none-some bs e)
length_by (Some b) None n h bs e = absurd (none-some bs e)
length_by (Some b) (Some xs) n h bs e = ap (λ (ys : List ℕ). length ys) (sym (same_Some (b ∷ xs) bs e)) ∙ ap (λ m. suc m) (h xs refl)

pub bytes_by_length : (byte : ℕ → Option ℕ) (at n : ℕ) (bs : List ℕ) → bytes_by byte at n ≡ Some bs → length bs ≡ n
bytes_by_length byte at zero bs e = ap (λ (ys : List ℕ). length ys) (sym (same_Some [] bs e))
bytes_by_length byte at (suc n) bs e = length_by (byte at) (bytes_by byte (at + 1) n) n (λ xs h. bytes_by_length byte (at + 1) n xs h) bs e

abbrev places_reached : Reach → List Place
places_reached (Memory ps) = ps
places_reached found = []

abbrev reaches : Reach → Bool
reaches (Memory ps) = true
reaches found = false

pub nothing_memory : (ps : List Place) → Nothing ≡ Memory ps → ⊥
nothing_memory ps e = both_ways true (ap reaches (sym e)) refl

same_memory : (ps qs : List Place) → Memory ps ≡ Memory qs → ps ≡ qs
same_memory ps qs e = ap places_reached e

-- an access of one byte reaches one place
one_long : (o : Option Place) (ps : List Place) → memory_or_nothing (option_and_then (λ (p : Place). option_map (λ (qs : List Place). p ∷ qs) (Some [])) o) ≡ Memory ps → length ps ≡ 1
one_long None ps e = absurd (nothing_memory ps e)
one_long (Some p) ps e = ap (λ (qs : List Place). length qs) (sym (same_memory (p ∷ []) ps e))

pub one_place_holds : (place : ℕ → Option Place) (at : ℕ) (ps : List Place) → reach_by place at 1 ≡ Memory ps → length ps ≡ 1
one_place_holds place at ps e = elim (cases_lt at ADDRESS_END) [
  | inl lt ↦ one_long (place at) ps (sym (reach_by_within place at 1 (omega arith)) ∙ e)
  | inr le ↦ absurd (nothing_memory ps (sym (reach_by_beyond place at 1 (omega arith)) ∙ e))
]

-- nothing is read past the addresses
pub read_beyond : (f : Place → ℕ) (place : ℕ → Option Place) (at : ℕ) → ADDRESS_END ≤ at → memory_read f (reach_by place at 1) ≡ None
read_beyond f place at le = ap (memory_read f) (reach_by_beyond place at 1 (omega arith))
