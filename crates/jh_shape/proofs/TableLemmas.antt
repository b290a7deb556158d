-- The slots of one table.
use Rattle.std.proofs.Common.{◌≡◌, ◌≢◌, ℕ, ◌+◌, ◌-◌, ◌*◌, ◌/◌, ◌<◌, ◌≤◌, zero, suc, max, true, cond, List, length, get_or, replicate, set, slice_get, Option, Some, ⊎_elim, sym, ap, ◌∙◌, arith}
use Rattle.std.proofs.lemmas.Bool.{cases_eq, cond-true}
use Rattle.std.proofs.lemmas.Bool.Decides.{nat_tests}
use Rattle.std.proofs.lemmas.List.{get_or-set_same, get_or-set_other, length-replicate, length-set}
use Rattle.std.proofs.lemmas.Option.{slice_get-get_or}
use Rattle.jh_num.specs.declared.address.TheConstants.{ADDRESS_END}
use Rattle.jh_num.specs.Levels.{slot_size}
use Rattle.jh_num.proofs.Public.{get_or_same}
use Rattle.jh_shape.specs.declared.want.Want.{Want}
use Rattle.jh_shape.specs.declared.want.Want.TheVariants.{Nothing}
use Rattle.jh_shape.proofs.MarkLemmas.{is_from}

-- a slot's number times its size is small
pub slot_fits : (level i : ℕ) → level ≤ 3 → i ≤ 512 → i * slot_size level ≤ ADDRESS_END
slot_fits zero i l few = let e : i * 549755813888 ≤ 281474976710656 = omega arith in e
slot_fits (suc zero) i l few = let e : i * 1073741824 ≤ 281474976710656 = omega arith in e
slot_fits (suc (suc zero)) i l few = let e : i * 2097152 ≤ 281474976710656 = omega arith in e
slot_fits (suc (suc (suc zero))) i l few = let e : i * 4096 ≤ 281474976710656 = omega arith in e
slot_fits (suc (suc (suc (suc n)))) i l few = absurd (omega arith)

-- a table has so many slots
pub slots_of_table : (level x : ℕ) → level ≤ 3 → x ≤ 512 * slot_size level → (x + (slot_size level - 1)) / slot_size level ≤ 512
slots_of_table zero x l h = let h' : x ≤ 281474976710656 = h in let e : (x + (549755813888 - 1)) / 549755813888 ≤ 512 = omega arith in e
slots_of_table (suc zero) x l h = let h' : x ≤ 549755813888 = h in let e : (x + (1073741824 - 1)) / 1073741824 ≤ 512 = omega arith in e
slots_of_table (suc (suc zero)) x l h = let h' : x ≤ 1073741824 = h in let e : (x + (2097152 - 1)) / 2097152 ≤ 512 = omega arith in e
slots_of_table (suc (suc (suc zero))) x l h = let h' : x ≤ 2097152 = h in let e : (x + (4096 - 1)) / 4096 ≤ 512 = omega arith in e
slots_of_table (suc (suc (suc (suc n)))) x l h = absurd (omega arith)

-- one slot more is put, from one on
pub put_step : (wants : List Want) (n from k : ℕ) (want : Want) (f : ℕ → Want) (old : Option Want) → n < length wants → k < length wants → from ≤ n → slice_get wants k ≡ cond (is_from from n k) (Some (f k)) old → want ≡ f n → slice_get (set wants n want) k ≡ cond (is_from from (n + 1) k) (Some (f k)) old
put_step wants n from k want f old within below low told is =
    let all : length (set wants n want) ≡ length wants = length-set wants n want in
    ⊎_elim
    (λ (here : k ≡ n).
    let put : is_from from (n + 1) k ≡ true = grind (arith, nat_tests) in
    slice_get-get_or (set wants n want) k want (omega arith)
    ∙ ap Some (ap (λ j. get_or (set wants n want) j want) here ∙ get_or-set_same wants n want want within ∙ is ∙ ap f (sym here))
    ∙ sym (cond-true (is_from from (n + 1) k) (Some (f k)) old put))
    (λ (other : k ≢ n).
    let same : is_from from n k ≡ is_from from (n + 1) k = grind (arith, nat_tests) in
    slice_get-get_or (set wants n want) k want (omega arith)
    ∙ ap Some (get_or-set_other wants n k want want other)
    ∙ sym (slice_get-get_or wants k want below)
    ∙ told
    ∙ ap (λ b. cond b (Some (f k)) old) same)
    (cases_eq k n)

-- and when all are
pub put_end : (from to n k : ℕ) → to ≤ n → n ≤ max from to → is_from from n k ≡ is_from from to k
put_end from to n k low high = grind (arith, nat_tests)

-- at first nothing is wanted
pub nothing_yet : (count n : ℕ) → n < count → slice_get (replicate count Nothing) n ≡ Some Nothing
nothing_yet count n few =
    let all : length (replicate count Nothing) ≡ count = length-replicate {A = Want} count Nothing in
    slice_get-get_or (replicate count Nothing) n Nothing (omega arith) ∙ ap Some (get_or_same count n Nothing)
