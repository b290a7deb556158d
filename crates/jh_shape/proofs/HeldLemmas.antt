-- What cells beside root cut and close of the places of one table.
use Rattle.std.proofs.Common.{◌≡◌, ℕ, ◌+◌, ◌-◌, ◌*◌, ◌/◌, ◌<◌, ◌≤◌, zero, suc, Bool, true, false, not, ◌&&◌, ◌||◌, nat_le, nat_lt, List, [], ◌∷◌, ◌++◌, length, get_or, take, refl, sym, ap, ◌∙◌, arith}
use Rattle.std.specs.List.{list_any}
use Rattle.std.proofs.lemmas.Bool.{and_left, and_parts, and_right, ltb-true}
use Rattle.std.proofs.lemmas.Bool.Decides.{nat_tests}
use Rattle.std.proofs.lemmas.List.{take_all}
use Rattle.std.proofs.lemmas.List.Folds.{list_any-append}
use Rattle.std.proofs.Math.Bool.{or-false}
use Rattle.std.proofs.Math.Nat.{lt_of_mul-lt-mul_right, mul-le-mul_right}
use Rattle.jh_num.specs.Bits.{has_bit}
use Rattle.jh_num.specs.Levels.{slot_size}
use Rattle.jh_cellcfg.specs.declared.config.CellConfig.{CellConfig}
use Rattle.jh_cellcfg.specs.declared.region.Region.{Region}
use Rattle.jh_cellcfg.specs.Regions.{has_place, is_loadable, is_unshared, phys_end}
use Rattle.jh_shape.specs.declared.marks.TheConstants.{WINDOW}
use Rattle.jh_shape.specs.Claims.{Holder, held_from, holder_of}
use Rattle.jh_shape.specs.Intervals.{spans, touches}
use Rattle.jh_shape.specs.Shapes.{meets_in_part, takes}
use Rattle.jh_shape.proofs.HoldersLemmas.{next_cell}
use Rattle.jh_shape.proofs.MarkLemmas.{next_slot}

-- a table's slots above level 0 are a window's
pub table_in_window : (level n : ℕ) → 0 < level → level ≤ 3 → n < 512 → n < WINDOW / slot_size level
table_in_window zero n some l few = absurd (omega arith)
table_in_window (suc zero) n some l few = let e : n < 512 = few in e
table_in_window (suc (suc zero)) n some l few = let e : n < 262144 = omega arith in e
table_in_window (suc (suc (suc zero))) n some l few = let e : n < 134217728 = omega arith in e
table_in_window (suc (suc (suc (suc m)))) n some l few = absurd (omega arith)

-- a slot ends within its table
pub slot_within : (n size : ℕ) → n < 512 → n * size + size ≤ 512 * size
slot_within n size few =
    let more : (n + 1) * size ≤ 512 * size = mul-le-mul_right size (let l : n + 1 ≤ 512 = omega arith in l) in
    let next = next_slot n size in
    omega arith

-- a region without a place in the table cuts and closes none of its slots
untouched : (first end base at size table : ℕ) → at + size ≤ table → touches first end base table ≡ false → touches first end (base + at) size ≡ false
untouched first end base at size table within none = grind (arith, nat_tests)

lacking : (first end base at table : ℕ) → at < table → touches first end base table ≡ false → (nat_le first (base + at) && nat_lt (base + at) end) ≡ false
lacking first end base at table within none = grind (arith, nat_tests)

pub cuts_nothing : (region : Region) (base n size : ℕ) → n < 512 → touches region.phys_start (phys_end region) base (512 * size) ≡ false → meets_in_part region (base + n * size) size ≡ false
cuts_nothing region base n size few none =
    let touched = touches region.phys_start (phys_end region) (base + n * size) size in
    let whole = not (spans region.phys_start (phys_end region) (base + n * size) size) in
    and_right (is_unshared region) (touched && whole)
    (and_left touched whole (untouched region.phys_start (phys_end region) base (n * size) size (512 * size) (slot_within n size few) none))

pub closes_nothing : (loadable : Bool) (region : Region) (base n size : ℕ) → 0 < size → n < 512 → touches region.phys_start (phys_end region) base (512 * size) ≡ false → takes loadable region (base + n * size) ≡ false
closes_nothing loadable region base n size some few none =
    let free = not (loadable && is_loadable region) in
    let has = has_place region (base + n * size) in
    and_right (is_unshared region) (free && has)
    (and_right free has (lacking region.phys_start (phys_end region) base (n * size) (512 * size) (let within = slot_within n size few in omega arith) none))

pub no_more : (old test : Bool) → test ≡ false → old ≡ (old || test)
no_more old test none = sym (ap (λ b. old || b) none ∙ or-false old)

-- the cells so far and one more, which holds or doesn't, by a test of those that hold
pub held_more : (p : Holder → Bool) (held loadable : ℕ) (cells : List CellConfig) (index : ℕ) (cell : CellConfig) → index < length cells → cell ≡ get_or cells index cell → has_bit held index ≡ true → list_any p (held_from held loadable 0 (take (index + 1) cells)) ≡ (list_any p (held_from held loadable 0 (take index cells)) || p (record { regions = cell.memory_regions; loadable = has_bit loadable index }))
held_more p held loadable cells index cell l e bit =
    let own = p (record { regions = cell.memory_regions; loadable = has_bit loadable index }) in
    let one : list_any p (held_from held loadable index (cell ∷ [])) ≡ own = rw bit (or-false own) in
    ap (λ hs. list_any p hs) (next_cell held loadable cells index cell l e)
    ∙ list_any-append p (held_from held loadable 0 (take index cells)) (held_from held loadable index (cell ∷ []))
    ∙ ap (λ b. list_any p (held_from held loadable 0 (take index cells)) || b) one

pub held_same : (p : Holder → Bool) (held loadable : ℕ) (cells : List CellConfig) (index : ℕ) (cell : CellConfig) → index < length cells → cell ≡ get_or cells index cell → has_bit held index ≡ false → list_any p (held_from held loadable 0 (take (index + 1) cells)) ≡ list_any p (held_from held loadable 0 (take index cells))
held_same p held loadable cells index cell l e bit =
    let none : list_any p (held_from held loadable index (cell ∷ [])) ≡ false = rw bit refl in
    ap (λ hs. list_any p hs) (next_cell held loadable cells index cell l e)
    ∙ list_any-append p (held_from held loadable 0 (take index cells)) (held_from held loadable index (cell ∷ []))
    ∙ ap (λ b. list_any p (held_from held loadable 0 (take index cells)) || b) none
    ∙ or-false (list_any p (held_from held loadable 0 (take index cells)))

-- all cells, and one more behind them
pub held_end : (p : Holder → Bool) (held loadable : ℕ) (cells : List CellConfig) (i : ℕ) (cell : CellConfig) (old new : Bool) → length cells ≤ i → old ≡ list_any p (held_from held loadable 0 (take i cells)) → new ≡ (old || p (holder_of cell)) → new ≡ list_any p (held_from held loadable 0 cells ++ holder_of cell ∷ [])
held_end p held loadable cells i cell old new l e f =
    let all = held_from held loadable 0 cells in
    f
    ∙ ap (λ b. b || p (holder_of cell)) (e ∙ ap (λ (cs : List CellConfig). list_any p (held_from held loadable 0 cs)) (take_all i cells l))
    ∙ ap (λ b. list_any p all || b) (sym (or-false (p (holder_of cell))))
    ∙ sym (list_any-append p all (holder_of cell ∷ []))

-- what lies behind the first place of a slot touches no other
pub behind_alone : (base size n k : ℕ) → touches (base + n * size + 1) (base + n * size + size) (base + k * size) size ≡ true → k ≡ n
behind_alone base size n k h =
    let start = base + n * size + 1 in
    let end = base + n * size + size in
    let p = and_parts (nat_lt start end) (nat_lt start (base + k * size + size) && nat_lt (base + k * size) end) h in
    let q = and_parts (nat_lt start (base + k * size + size)) (nat_lt (base + k * size) end) p.1 in
    let x = ltb-true start (base + k * size + size) q.0 in
    let y = ltb-true (base + k * size) end q.1 in
    let a = next_slot k size in
    let b = next_slot n size in
    let low : n < k + 1 = (let l : n * size < (k + 1) * size = omega arith in lt_of_mul-lt-mul_right size {m = n} {n = k + 1} l) in
    let high : k < n + 1 = (let l : k * size < (n + 1) * size = omega arith in lt_of_mul-lt-mul_right size {m = k} {n = n + 1} l) in
    omega arith
