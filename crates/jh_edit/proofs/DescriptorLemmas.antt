-- What a word that names a table says: it stands above the last level, and the table lies below the end of addresses.
use Rattle.std.proofs.Common.{◌≡◌, ℕ, ◌%◌, ◌<◌, ◌≤◌, ◌==◌, Bool, true, false, zero, suc, if◌then◌else◌, sym, arith, refl}
use Rattle.std.proofs.lemmas.Bool.{false≢true}
use Rattle.jh_num.specs.declared.address.TheConstants.{ADDRESS_END}
use Rattle.jh_num.specs.declared.level.TheConstants.{LAST_LEVEL}
use Rattle.jh_num.specs.Bits.{has_bit}
use Rattle.jh_desc.specs.declared.descriptor.Descriptor.TheVariants.{Invalid, Table}
use Rattle.jh_desc.specs.Descriptors.{address_in, has_blocks, leaf_in, read_of}
use Rattle.jh_shape.specs.Wanted.{slot_start}

table_by : (a b l h : Bool) (level word next : ℕ) → (if a then (if b then (if l then leaf_in level word else Table (address_in 4096 word)) else (if h then leaf_in level word else Invalid)) else Invalid) ≡ Table next → (l ≡ false) × (next ≡ address_in 4096 word)
table_by true true true h level word next e = absurd (let n : ⊥ = cc in n)
table_by true true false h level word next e = (refl, cc)
table_by true false l true level word next e = absurd (let n : ⊥ = cc in n)
table_by true false l false level word next e = absurd (let n : ⊥ = cc in n)
table_by false b l h level word next e = absurd (let n : ⊥ = cc in n)

-- no word of the last level names a table
pub none_at_the_end : (word next : ℕ) → read_of word LAST_LEVEL ≡ Table next → ⊥
none_at_the_end word next e =
    let p = table_by (has_bit word 0) (has_bit word 1) (LAST_LEVEL == LAST_LEVEL) (has_blocks LAST_LEVEL) LAST_LEVEL word next e in
    false≢true (sym p.0)

-- a table that a word names lies below the end of addresses
pub named_below : (word level next : ℕ) → read_of word level ≡ Table next → next < ADDRESS_END
named_below word level next e =
    let p = table_by (has_bit word 0) (has_bit word 1) (level == LAST_LEVEL) (has_blocks level) level word next e in
    let is : next ≡ address_in 4096 word = p.1 in
    omega arith

-- a slot of a table that begins at a page begins at one
pub slot_aligned : (level start slot : ℕ) → level ≤ LAST_LEVEL → start % 4096 ≡ 0 → slot_start level start slot % 4096 ≡ 0
slot_aligned zero start slot last is = omega arith
slot_aligned (suc zero) start slot last is = omega arith
slot_aligned (suc (suc zero)) start slot last is = omega arith
slot_aligned (suc (suc (suc zero))) start slot last is = omega arith
slot_aligned (suc (suc (suc (suc n)))) start slot last is = absurd (let no : ⊥ = omega arith in no)
