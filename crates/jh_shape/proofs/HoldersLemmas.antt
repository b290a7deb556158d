-- The cells that hold, one by one.
use Rattle.std.proofs.Common.{◌≡◌, ℕ, ◌+◌, ◌<◌, Bool, true, false, cond, ◌||◌, List, [], ◌∷◌, ◌++◌, length, get_or, take, refl, sym, ap, ◌∙◌, arith}
use Rattle.std.proofs.lemmas.List.{take_more, length-take-le}
use Rattle.std.proofs.lemmas.List.Folds.{list_any-append}
use Rattle.std.proofs.Math.Bool.{or-false}
use Rattle.std.specs.List.{list_any}
use Rattle.jh_cellcfg.specs.declared.config.CellConfig.{CellConfig}
use Rattle.jh_cellcfg.specs.declared.region.Region.{Region}
use Rattle.jh_num.specs.Bits.{has_bit}
use Rattle.jh_shape.specs.Claims.{Holder, held_from}
use Rattle.jh_shape.specs.Shapes.{meets_in_part, are_cut}

cond_append : (b : Bool) (h : Holder) (r s t : List Holder) → r ≡ s ++ t → cond b (h ∷ r) r ≡ cond b (h ∷ s) s ++ t
cond_append true h r s t e = ap (λ v. h ∷ v) e
cond_append false h r s t e = e

pub held_from_append : (held loadable index : ℕ) (xs ys : List CellConfig) → held_from held loadable index (xs ++ ys) ≡ held_from held loadable index xs ++ held_from held loadable (index + length xs) ys
held_from_append held loadable index [] ys = let e : index ≡ index + 0 = omega arith in ap (λ n. held_from held loadable n ys) e
held_from_append held loadable index (x ∷ xs) ys =
    let e : (index + 1) + length xs ≡ index + length (x ∷ xs) = omega arith in
    cond_append (has_bit held index) (record { regions = x.memory_regions; loadable = has_bit loadable index }) (held_from held loadable (index + 1) (xs ++ ys)) (held_from held loadable (index + 1) xs) (held_from held loadable (index + length (x ∷ xs)) ys)
    (held_from_append held loadable (index + 1) xs ys ∙ ap (λ n. held_from held loadable (index + 1) xs ++ held_from held loadable n ys) e)

pub are_cut_append : (xs ys : List Holder) (place size : ℕ) → are_cut (xs ++ ys) place size ≡ (are_cut xs place size || are_cut ys place size)
are_cut_append xs ys place size =
    list_any-append (λ (holder : Holder). list_any (λ (region : Region). meets_in_part region place size) holder.regions) xs ys

-- the cells so far and one more, which holds or doesn't
pub next_cell : (held loadable : ℕ) (cells : List CellConfig) (index : ℕ) (cell : CellConfig) → index < length cells → cell ≡ get_or cells index cell → held_from held loadable 0 (take (index + 1) cells) ≡ held_from held loadable 0 (take index cells) ++ held_from held loadable index (cell ∷ [])
next_cell held loadable cells index cell l e =
    let len : length (take index cells) ≡ index = length-take-le index cells (omega arith) in
    let next : take (index + 1) cells ≡ take index cells ++ cell ∷ [] = take_more cells index cell l ∙ ap (λ c. take index cells ++ c ∷ []) (sym e) in
    ap (λ xs. held_from held loadable 0 xs) next
    ∙ held_from_append held loadable 0 (take index cells) (cell ∷ [])
    ∙ (let n : 0 + length (take index cells) ≡ index = omega arith in ap (λ n. held_from held loadable 0 (take index cells) ++ held_from held loadable n (cell ∷ [])) n)

pub cut_more : (held loadable : ℕ) (cells : List CellConfig) (index : ℕ) (cell : CellConfig) (place size : ℕ) → index < length cells → cell ≡ get_or cells index cell → has_bit held index ≡ true → are_cut (held_from held loadable 0 (take (index + 1) cells)) place size ≡ (are_cut (held_from held loadable 0 (take index cells)) place size || list_any (λ (region : Region). meets_in_part region place size) cell.memory_regions)
cut_more held loadable cells index cell place size l e bit =
    let own = list_any (λ (region : Region). meets_in_part region place size) cell.memory_regions in
    let one : are_cut (held_from held loadable index (cell ∷ [])) place size ≡ own = rw bit (or-false own) in
    ap (λ hs. are_cut hs place size) (next_cell held loadable cells index cell l e)
    ∙ are_cut_append (held_from held loadable 0 (take index cells)) (held_from held loadable index (cell ∷ [])) place size
    ∙ ap (λ b. are_cut (held_from held loadable 0 (take index cells)) place size || b) one

pub cut_same : (held loadable : ℕ) (cells : List CellConfig) (index : ℕ) (cell : CellConfig) (place size : ℕ) → index < length cells → cell ≡ get_or cells index cell → has_bit held index ≡ false → are_cut (held_from held loadable 0 (take (index + 1) cells)) place size ≡ are_cut (held_from held loadable 0 (take index cells)) place size
cut_same held loadable cells index cell place size l e bit =
    let none : are_cut (held_from held loadable index (cell ∷ [])) place size ≡ false = rw bit refl in
    ap (λ hs. are_cut hs place size) (next_cell held loadable cells index cell l e)
    ∙ are_cut_append (held_from held loadable 0 (take index cells)) (held_from held loadable index (cell ∷ [])) place size
    ∙ ap (λ b. are_cut (held_from held loadable 0 (take index cells)) place size || b) none
    ∙ or-false (are_cut (held_from held loadable 0 (take index cells)) place size)
