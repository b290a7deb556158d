-- What a table tells of one pin.
use Rattle.std.proofs.Common.{◌≡◌, ◌≢◌, ℕ, zero, suc, ◌+◌, ◌-◌, ◌*◌, ◌/◌, ◌%◌, ◌<◌, ◌≤◌, Bool, true, false, cond, eqb, leb, ltb, ◌&&◌, List, [], ◌∷◌, ◌++◌, length, get_or, Option, Some, None, refl, sym, ap, subst, ◌∙◌, inl, inr, append_assoc, arith}
use Rattle.std.specs.Prelude.{◌↔◌, All, Contains, find, filter, option_map, slice_index}
use Rattle.std.specs.Option.{option_map_or}
use Rattle.std.proofs.lemmas.Bool.{and_from, and_parts, both_ways, cases_Bool, eq-eqb, eqb-true, false≢true, le-leb, leb-true, lt-ltb, ltb-true}
use Rattle.std.proofs.lemmas.Option.{none-some, same_Some}
use Rattle.std.proofs.lemmas.List.{get_or_append_left, length-append}
use Rattle.std.proofs.lemmas.List.Elements.{All-contains, All-tail}
use Rattle.jh_num.specs.Bits.{has_bit}
use Rattle.jh_num.proofs.Public.{IsFound_from_find, find_None}
use Rattle.jh_cellcfg.specs.declared.config.Irqchip.{Irqchip}
use Rattle.jh_pins.specs.declared.pin.Pin.{Pin}
use Rattle.jh_pins.specs.declared.pin.PinRun.{PinRun}
use Rattle.jh_pins.specs.Claims.{Claim}
use Rattle.jh_pins.specs.Pins.{is_set, is_given_by, is_named_by, IsPinOf}
use Rattle.jh_pins.specs.TableView.{TableView, AreTwoCells, HaveOwnIds}
use Rattle.jh_pins.specs.Holders.{claimants, id_of, holder, is_held_by, has_id, is_other, without}
use Rattle.jh_pins.specs.Runs.{pin_of, IsInRun, IsRunOf, AreRuns}
use Rattle.jh_pins.proofs.HolderLemmas.{AreOthers, out_of}

-- ---- the pins of an irqchip

bits_of : (irqchip : Irqchip) (pin : Pin) → is_given_by pin irqchip ≡ true → IsPinOf irqchip pin
bits_of irqchip pin h =
    let base = irqchip.pin_base in
    let off = pin.number - base in
    let chip = and_parts (eqb irqchip.address pin.chip) (leb base pin.number && is_set irqchip.pin_bitmap off) h in
    let low = and_parts (leb base pin.number) (is_set irqchip.pin_bitmap off) chip.1 in
    let set = and_parts (ltb off 128) (has_bit (slice_index irqchip.pin_bitmap (off / 32)) (off % 32)) low.1 in
    let from : base ≤ pin.number = leb-true base pin.number low.0 in
    let few : off < 128 = ltb-true off 128 set.0 in
    record {
      word = off / 32;
      bit = off % 32;
      few_words = omega arith;
      few_bits = omega arith;
      set = set.1;
      chip = sym (eqb-true irqchip.address pin.chip chip.0);
      number = omega arith;
    }

from_bits : (irqchip : Irqchip) (pin : Pin) → IsPinOf irqchip pin → is_given_by pin irqchip ≡ true
from_bits irqchip pin is =
    let base = irqchip.pin_base in
    let off = pin.number - base in
    let w = is.word in
    let b = is.bit in
    let few_words : w < 4 = is.few_words in
    let few_bits : b < 32 = is.few_bits in
    let number : pin.number ≡ base + 32 * w + b = is.number in
    let at : off ≡ 32 * w + b = omega arith in
    let word : off / 32 ≡ w = omega arith in
    let bit : off % 32 ≡ b = omega arith in
    let P : ℕ → Type 0 = λ n. has_bit (slice_index irqchip.pin_bitmap n) (off % 32) ≡ true in
    let Q : ℕ → Type 0 = λ n. has_bit (slice_index irqchip.pin_bitmap w) n ≡ true in
    let set = subst P (sym word) (subst Q (sym bit) is.set) in
    and_from (eqb irqchip.address pin.chip) (leb base pin.number && is_set irqchip.pin_bitmap off) (eq-eqb irqchip.address pin.chip (sym is.chip))
    (and_from (leb base pin.number) (is_set irqchip.pin_bitmap off) (le-leb base pin.number (omega arith))
    (and_from (ltb off 128) (has_bit (slice_index irqchip.pin_bitmap (off / 32)) (off % 32)) (lt-ltb off 128 (omega arith)) set))

pub given_exactly : (irqchip : Irqchip) (pin : Pin) → (is_given_by pin irqchip ≡ true) ↔ IsPinOf irqchip pin
given_exactly irqchip pin = (bits_of irqchip pin, from_bits irqchip pin)

-- ---- one holder

some_from : (o : Option ℕ) (id : ℕ) → option_map_or (λ of. eqb of id) o false ≡ true → o ≡ Some id
some_from None id h = absurd (false≢true h)
some_from (Some of) id h = ap (λ (n : ℕ). Some n) (eqb-true of id h)

in_runs : (has : Pin → Bool) (runs : List PinRun) (pin : Pin) → AreRuns has runs → IsInRun runs pin → has pin ≡ true
in_runs has runs pin are is =
    let of : IsRunOf has is.run = All-contains (IsRunOf has) runs is.run are.own is.among in
    let P : ℕ → Type 0 = λ chip. has (pin_of chip pin.number) ≡ true in
    subst P (sym is.has.chip) (of.each pin.number is.has.first is.has.last)

pub one_holder : (table : TableView) (one other : ℕ) (runs more : List PinRun) (pin : Pin) → AreRuns (is_held_by table one) runs → AreRuns (is_held_by table other) more → IsInRun runs pin → IsInRun more pin → one ≡ other
one_holder table one other runs more pin are more_are is more_is =
    let first = some_from (holder table pin) one (in_runs (is_held_by table one) runs pin are is) in
    let second = some_from (holder table pin) other (in_runs (is_held_by table other) more pin more_are more_is) in
    same_Some one other (sym first ∙ second)

-- ---- a pin that is named

found_by : (test : Claim → Bool) (claims : List Claim) (claim : Claim) (o : Option Claim) → find test claims ≡ o → Contains claims claim → test claim ≡ true → (id : ℕ) × (option_map id_of o ≡ Some id)
found_by test claims claim None e among passes = absurd (both_ways (test claim) (find_None test claims claim e among) passes)
found_by test claims claim (Some own) e among passes = (own.id, refl)

pub named_held : (table : TableView) (pin : Pin) (claim : Claim) → Contains (claimants table) claim → is_named_by pin claim ≡ true → (id : ℕ) × (holder table pin ≡ Some id)
named_held table pin claim among named = found_by (is_named_by pin) (claimants table) claim (find (is_named_by pin) (claimants table)) refl among named

names_by : (test : Claim → Bool) (claims : List Claim) (id : ℕ) (o : Option Claim) → find test claims ≡ o → option_map id_of o ≡ Some id → (claim : Claim) × Contains claims claim × (claim.id ≡ id) × (test claim ≡ true)
names_by test claims id None e h = absurd (none-some id h)
names_by test claims id (Some own) e h =
    let found = IsFound_from_find test claims own e in
    (own, found.among, same_Some own.id id h, found.passes)

pub held_named : (table : TableView) (pin : Pin) (id : ℕ) → holder table pin ≡ Some id → (claim : Claim) × Contains (claimants table) claim × (claim.id ≡ id) × (is_named_by pin claim ≡ true)
held_named table pin id h = names_by (is_named_by pin) (claimants table) id (find (is_named_by pin) (claimants table)) refl h

-- ---- the first that names it

pub find_behind : (test : Claim → Bool) (before rest : List Claim) → All (λ (claim : Claim). test claim ≡ false) before → find test (before ++ rest) ≡ find test rest
find_behind test [] rest none = refl
find_behind test (x ∷ xs) rest none =
    let first : test x ≡ false = none 0 x (omega arith) in
    rw first (find_behind test xs rest (All-tail (λ (claim : Claim). test claim ≡ false) x xs none))

pub first_holds : (table : TableView) (before behind : List Claim) (own : Claim) (pin : Pin) → table.cells ≡ before ++ own ∷ behind → All (λ (claim : Claim). is_named_by pin claim ≡ false) before → is_named_by pin own ≡ true → holder table pin ≡ Some own.id
first_holds table before behind own pin e none named =
    let test : Claim → Bool = is_named_by pin in
    let all : table.cells ++ table.root ∷ [] ≡ before ++ own ∷ (behind ++ table.root ∷ []) = ap (λ (l : List Claim). l ++ table.root ∷ []) e ∙ append_assoc before (own ∷ behind) (table.root ∷ []) in
    ap (λ (l : List Claim). option_map id_of (find test l)) all
    ∙ ap (option_map id_of) (find_behind test before (own ∷ (behind ++ table.root ∷ [])) none)
    ∙ ap (λ b. option_map id_of (cond b (Some own) (find test (behind ++ table.root ∷ [])))) named

pub root_holds : (table : TableView) (pin : Pin) → All (λ (claim : Claim). is_named_by pin claim ≡ false) table.cells → is_named_by pin table.root ≡ true → holder table pin ≡ Some table.root.id
root_holds table pin none named =
    ap (option_map id_of) (find_behind (is_named_by pin) table.cells (table.root ∷ []) none)
    ∙ ap (λ b. option_map id_of (cond b (Some table.root) None)) named

-- ---- a cell goes

at_first : (before behind : List Claim) (own d : Claim) → get_or (before ++ own ∷ behind) (length before) d ≡ own
at_first [] behind own d = refl
at_first (x ∷ xs) behind own d = at_first xs behind own d

at_later : (before behind : List Claim) (own d : Claim) (k : ℕ) → get_or (before ++ own ∷ behind) (suc (length before + k)) d ≡ get_or behind k d
at_later [] behind own d k = ap (λ n. get_or behind n d) (let e : 0 + k ≡ k = omega arith in e)
at_later (x ∷ xs) behind own d k = ap (λ n. get_or (xs ++ own ∷ behind) n d) (let e : suc (length xs) + k ≡ suc (length xs + k) = omega arith in e) ∙ at_later xs behind own d k

cells_before : (root : Claim) (before behind : List Claim) (own : Claim) → HaveOwnIds root (before ++ own ∷ behind) → AreOthers own.id before
cells_before root before behind own ids k d lt same =
    let n : length (before ++ own ∷ behind) ≡ length before + suc (length behind) = length-append before (own ∷ behind) in
    let two : AreTwoCells (get_or (before ++ own ∷ behind) k d) (get_or (before ++ own ∷ behind) (length before) d) = ids (suc k) (suc (length before)) d (omega arith) (omega arith) in
    let P : Claim → Type 0 = λ x. AreTwoCells x (get_or (before ++ own ∷ behind) (length before) d) in
    let Q : Claim → Type 0 = λ y. AreTwoCells (get_or before k d) y in
    let apart : AreTwoCells (get_or before k d) own = subst Q (at_first before behind own d) (subst P (get_or_append_left before (own ∷ behind) d k lt) two) in
    apart same

cells_behind : (root : Claim) (before behind : List Claim) (own : Claim) → HaveOwnIds root (before ++ own ∷ behind) → AreOthers own.id behind
cells_behind root before behind own ids k d lt same =
    let n : length (before ++ own ∷ behind) ≡ length before + suc (length behind) = length-append before (own ∷ behind) in
    let two : AreTwoCells (get_or (before ++ own ∷ behind) (length before) d) (get_or (before ++ own ∷ behind) (suc (length before + k)) d) = ids (suc (length before)) (suc (suc (length before + k))) d (omega arith) (omega arith) in
    let P : Claim → Type 0 = λ x. AreTwoCells x (get_or (before ++ own ∷ behind) (suc (length before + k)) d) in
    let Q : Claim → Type 0 = λ y. AreTwoCells own y in
    let apart : AreTwoCells own (get_or behind k d) = subst Q (at_later before behind own d k) (subst P (at_first before behind own d) two) in
    apart (sym same)

-- what the first ones don't hold, they don't name
unnamed_step : (t : Bool) (id : ℕ) (x : Claim) (o : Option Claim) → x.id ≢ id → option_map id_of (cond t (Some x) o) ≡ Some id → (t ≡ false) × (option_map id_of o ≡ Some id)
unnamed_step true id x o ne h = absurd (ne (same_Some x.id id h))
unnamed_step false id x o ne h = (refl, h)

unnamed : (test : Claim → Bool) (id : ℕ) (before rest : List Claim) → AreOthers id before → option_map id_of (find test (before ++ rest)) ≡ Some id → All (λ (claim : Claim). test claim ≡ false) before
unnamed test id [] rest others h k d lt = absurd (omega arith)
unnamed test id (x ∷ xs) rest others h zero d lt = (unnamed_step (test x) id x (find test (xs ++ rest)) (others 0 x (omega arith)) h).0
unnamed test id (x ∷ xs) rest others h (suc k) d lt =
    unnamed test id xs rest (All-tail (λ (claim : Claim). claim.id ≢ id) x xs others) (unnamed_step (test x) id x (find test (xs ++ rest)) (others 0 x (omega arith)) h).1 k d (omega arith)

pub next_holds : (table : TableView) (before behind : List Claim) (own : Claim) (pin : Pin) → HaveOwnIds table.root table.cells → table.cells ≡ before ++ own ∷ behind → holder table pin ≡ Some own.id
    → holder (without own.id table) pin ≡ option_map id_of (find (is_named_by pin) (behind ++ table.root ∷ []))
next_holds table before behind own pin ids e held =
    let test : Claim → Bool = is_named_by pin in
    let last = table.root ∷ [] in
    let own_ids = subst (HaveOwnIds table.root) e ids in
    let early = cells_before table.root before behind own own_ids in
    let late = cells_behind table.root before behind own own_ids in
    let out : filter (is_other own.id) table.cells ≡ before ++ behind = ap (filter (is_other own.id)) e ∙ out_of own.id before own behind early refl late in
    let all : table.cells ++ last ≡ before ++ ((own ∷ behind) ++ last) = ap (λ (l : List Claim). l ++ last) e ∙ append_assoc before (own ∷ behind) last in
    let none = unnamed test own.id before ((own ∷ behind) ++ last) early (sym (ap (λ (l : List Claim). option_map id_of (find test l)) all) ∙ held) in
    ap (λ (l : List Claim). option_map id_of (find test (l ++ last))) out
    ∙ ap (λ (l : List Claim). option_map id_of (find test l)) (append_assoc before behind last)
    ∙ ap (option_map id_of) (find_behind test before (behind ++ last) none)

gone : (t : Bool) (id other : ℕ) (x : Claim) (o : Option Claim) → x.id ≡ id → other ≢ id → option_map id_of (cond t (Some x) o) ≡ Some other → option_map id_of o ≡ Some other
gone true id other x o is ne h = absurd (ne (sym (same_Some x.id other h) ∙ is))
gone false id other x o is ne h = h

kept : (t : Bool) (other : ℕ) (x : Claim) (o p : Option Claim) → (option_map id_of o ≡ Some other → option_map id_of p ≡ Some other) → option_map id_of (cond t (Some x) o) ≡ Some other → option_map id_of (cond t (Some x) p) ≡ Some other
kept true other x o p f h = h
kept false other x o p f h = f h

stays : (test : Claim → Bool) (id other : ℕ) (cells last : List Claim) → other ≢ id → option_map id_of (find test (cells ++ last)) ≡ Some other → option_map id_of (find test (filter (is_other id) cells ++ last)) ≡ Some other
stays test id other [] last ne h = h
stays test id other (x ∷ xs) last ne h =
    elim (cases_Bool (has_id id x)) [
      | inl has ↦ rw has (stays test id other xs last ne (gone (test x) id other x (find test (xs ++ last)) (eqb-true x.id id has) ne h))
      | inr isnt ↦ rw isnt (kept (test x) other x (find test (xs ++ last)) (find test (filter (is_other id) xs ++ last)) (stays test id other xs last ne) h)
    ]

pub others_stay : (table : TableView) (id other : ℕ) (pin : Pin) → holder table pin ≡ Some other → other ≢ id → holder (without id table) pin ≡ Some other
others_stay table id other pin h ne = stays (is_named_by pin) id other table.cells (table.root ∷ []) ne h
