-- A page of addresses lies in one slot at each level, and leaves lead below the end of places.
use Rattle.std.proofs.Common.{◌≡◌, ℕ, ◌+◌, ◌-◌, ◌*◌, ◌/◌, ◌%◌, ◌^◌, ◌<◌, ◌≤◌, zero, suc, inl, inr, ◌∙◌, sym, ap, subst, nat_lt, if◌then◌else◌, Bool, true, false, eqb, Option, Some, None, arith, refl}
use Rattle.std.specs.Option.{option_map}
use Rattle.jh_num.specs.declared.address.TheConstants.{ADDRESS_END}
use Rattle.jh_desc.specs.declared.descriptor.Descriptor.{Descriptor}
use Rattle.jh_desc.specs.declared.descriptor.Descriptor.TheVariants.{Invalid, Table, Leaf}
use Rattle.jh_desc.specs.declared.descriptor.Hit.{Hit}
use Rattle.jh_desc.specs.Descriptors.{read_of, leaf_in, address_in, has_blocks}
use Rattle.jh_num.specs.Bits.{has_bit}
use Rattle.jh_num.specs.declared.rights.Rights.{Rights}
use Rattle.jh_desc.specs.Levels.{index_of}
use Rattle.jh_num.specs.declared.level.TheConstants.{LAST_LEVEL}
use Rattle.jh_num.specs.Levels.{slot_size}
use Rattle.jh_walk.specs.Walks.{walk_of, walk_on, descriptor_at}
use Rattle.jh_walk.specs.Paths.{behind, EndsAtLeaf, IsLeafAt}

-- an address of a page lies in the page's slot of each level
same_slot : (level page k : ℕ) → level < 4 → page % 4096 ≡ 0 → k < 4096 → (page + k) / slot_size level ≡ page / slot_size level
same_slot zero page k lt is small = omega arith
same_slot (suc zero) page k lt is small = omega arith
same_slot (suc (suc zero)) page k lt is small = omega arith
same_slot (suc (suc (suc zero))) page k lt is small = omega arith
same_slot (suc (suc (suc (suc n)))) page k lt is small = omega arith

offset_behind : (level page k : ℕ) → level < 4 → page % 4096 ≡ 0 → k < 4096 → (page + k) % slot_size level ≡ page % slot_size level + k
offset_behind zero page k lt is small = omega arith
offset_behind (suc zero) page k lt is small = omega arith
offset_behind (suc (suc zero)) page k lt is small = omega arith
offset_behind (suc (suc (suc zero))) page k lt is small = omega arith
offset_behind (suc (suc (suc (suc n)))) page k lt is small = omega arith

if_behind : (b : Bool) (k : ℕ) (one other : Option Hit) → one ≡ option_map (behind k) other → (if b then one else None) ≡ option_map (behind k) (if b then other else None)
if_behind true k one other e = e
if_behind false k one other e = refl

on_behind : (one other : ℕ → Option Hit) (level page k : ℕ) (d : Descriptor) → level < 4 → page % 4096 ≡ 0 → k < 4096 → ((next : ℕ) → one next ≡ option_map (behind k) (other next)) → walk_on one level (page + k) d ≡ option_map (behind k) (walk_on other level page d)
on_behind one other level page k Invalid lt is small same = refl
on_behind one other level page k (Leaf out rights device) lt is small same =
    let far : out + (page + k) % slot_size level ≡ out + page % slot_size level + k = let e : (page + k) % slot_size level ≡ page % slot_size level + k = offset_behind level page k lt is small in omega arith in
    ap (λ (o : ℕ). Some (record { out = o; rights = rights; device = device; span = slot_size level })) far
on_behind one other level page k (Table next) lt is small same = if_behind (nat_lt next ADDRESS_END) k (one next) (other next) (same next)

pub walk_behind : (w : ℕ → ℕ) (n t page k : ℕ) → n ≤ 4 → page % 4096 ≡ 0 → k < 4096 → walk_of w n t (page + k) ≡ option_map (behind k) (walk_of w n t page)
unfolding walk_of
walk_behind w zero t page k few is small = refl
walk_behind w (suc n) t page k few is small =
    let slot : index_of (LAST_LEVEL - n) (page + k) ≡ index_of (LAST_LEVEL - n) page = ap (λ i. i % 512) (same_slot (LAST_LEVEL - n) page k (omega arith) is small) in
    ap (λ i. walk_on (λ next. walk_of w n next (page + k)) (LAST_LEVEL - n) (page + k) (read_of (w (t + 8 * i)) (LAST_LEVEL - n))) slot
    ∙ on_behind (λ next. walk_of w n next (page + k)) (λ next. walk_of w n next page) (LAST_LEVEL - n) page k (read_of (w (descriptor_at (LAST_LEVEL - n) t page)) (LAST_LEVEL - n)) (omega arith) is small (λ next. walk_behind w n next page k (omega arith) is small)

-- ---- where leaves lead

abbrev out_of : Descriptor → ℕ
out_of Invalid = 0
out_of (Table next) = 0
out_of (Leaf out rights device) = out

leaf_by : (valid named last blocks : Bool) (next out : ℕ) (rights : Rights) (device : Bool) (leaf : Descriptor) → (if valid then (if named then (if last then leaf else Table next) else (if blocks then leaf else Invalid)) else Invalid) ≡ Leaf out rights device → out ≡ out_of leaf
leaf_by false named last blocks next out rights device leaf is = cc
leaf_by true true true blocks next out rights device leaf is = sym (ap out_of is)
leaf_by true true false blocks next out rights device leaf is = cc
leaf_by true false last true next out rights device leaf is = sym (ap out_of is)
leaf_by true false last false next out rights device leaf is = cc

-- a slot begins at a multiple of its size
slot_fits : (level place : ℕ) → level < 4 → place < 2 ^ 48 → place - place % slot_size level + slot_size level ≤ 2 ^ 48
slot_fits zero place lt small = omega arith
slot_fits (suc zero) place lt small = omega arith
slot_fits (suc (suc zero)) place lt small = omega arith
slot_fits (suc (suc (suc zero))) place lt small = omega arith
slot_fits (suc (suc (suc (suc n)))) place lt small = omega arith

leaf_is : (word level out : ℕ) (rights : Rights) (device : Bool) → read_of word level ≡ Leaf out rights device → out ≡ address_in (slot_size level) word
leaf_is word level out rights device is =
    leaf_by (has_bit word 0) (has_bit word 1) (eqb level LAST_LEVEL) (has_blocks level) (address_in 4096 word) out rights device (leaf_in level word) is

-- the offset in a slot is smaller than the slot, and ends as the address does
offset_small : (level at : ℕ) → level < 4 → at % slot_size level < slot_size level
offset_small zero at lt = omega arith
offset_small (suc zero) at lt = omega arith
offset_small (suc (suc zero)) at lt = omega arith
offset_small (suc (suc (suc zero))) at lt = omega arith
offset_small (suc (suc (suc (suc n)))) at lt = omega arith

offset_same : (level at place : ℕ) → level < 4 → (place - place % slot_size level + at % slot_size level) % 4096 ≡ at % 4096
offset_same zero at place lt = omega arith
offset_same (suc zero) at place lt = omega arith
offset_same (suc (suc zero)) at place lt = omega arith
offset_same (suc (suc (suc zero))) at place lt = omega arith
offset_same (suc (suc (suc (suc n)))) at place lt = omega arith

-- what is said of a hit, by its offset in the slot and the slot's size
pub record IsPlaced (at : ℕ) (hit : Hit) : Type 0 where
  pub place : hit.out < 2 ^ 48
  pub slot : hit.out - at % hit.span + hit.span ≤ 2 ^ 48
  pub offset : hit.out % 4096 ≡ at % 4096

gives_placed : (w : ℕ → ℕ) (level t at : ℕ) (hit : Hit) → level < 4 → IsLeafAt w level t at hit → IsPlaced at hit
gives_placed w level t at hit lt leaf =
    let word : ℕ = w (descriptor_at level t at) in
    let out : leaf.out ≡ address_in (slot_size level) word = leaf_is word level leaf.out leaf.rights leaf.device leaf.descriptor in
    let fits : address_in (slot_size level) word + slot_size level ≤ 2 ^ 48 = slot_fits level (word % 2 ^ 48) lt (omega arith) in
    let small : at % slot_size level < slot_size level = offset_small level at lt in
    let same : (address_in (slot_size level) word + at % slot_size level) % 4096 ≡ at % 4096 = offset_same level at (word % 2 ^ 48) lt in
    subst (IsPlaced at) (sym leaf.gives) (record {
      place = omega arith;
      slot = omega arith;
      offset = ap (λ o. (o + at % slot_size level) % 4096) out ∙ same;
    })

pub ends_placed : (w : ℕ → ℕ) (n t at : ℕ) (hit : Hit) → n ≤ 4 → EndsAtLeaf w n t at hit → IsPlaced at hit
ends_placed w zero t at hit few ends = elim ends [ ]
ends_placed w (suc n) t at hit few (inl leaf) = gives_placed w (LAST_LEVEL - n) t at hit (omega arith) leaf
ends_placed w (suc n) t at hit few (inr (next, (leads, ends))) = ends_placed w n next at hit (omega arith) ends
