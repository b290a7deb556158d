-- What is wanted of a slot, against what its bytes are granted, and as a descriptor.
use Rattle.std.proofs.Common.{◌≡◌, ℕ, ◌+◌, ◌-◌, ◌%◌, ◌<◌, ◌≤◌, ◌==◌, zero, suc, Bool, true, false, ◌&&◌, ◌||◌, cond, nat_lt, Option, Some, None, ⊎_elim, refl, sym, ap, subst, ◌∙◌, arith}
use Rattle.std.proofs.lemmas.Bool.{and_parts, both_ways, cases_Bool, eqb-true, or_cases}
use Rattle.jh_num.specs.declared.address.TheConstants.{ADDRESS_END}
use Rattle.jh_num.specs.declared.rights.Rights.{Rights}
use Rattle.jh_num.specs.Levels.{slot_size}
use Rattle.jh_cellcfg.specs.declared.region.Region.{Region}
use Rattle.jh_cellcfg.specs.Regions.{is_comm, is_page_mapped, place_in, virt_end}
use Rattle.jh_shape.specs.declared.want.Want.{Want}
use Rattle.jh_shape.specs.declared.want.Want.TheVariants.{Nothing, Table, Leaf}
use Rattle.jh_shape.specs.Claims.{Claims}
use Rattle.jh_shape.specs.Grants.{DescribesGrants}
use Rattle.jh_shape.specs.Intervals.{spans}
use Rattle.jh_shape.specs.Shapes.{is_leaf_by, is_kept_from, is_mapped, is_met, leaf_region, may_be_block, out_of, want_from, want_of, want_without_leaf}
use Rattle.jh_shape.specs.SoundClaims.{AreSoundClaims, IsFit, IsSlot}
use Rattle.jh_shape.proofs.GrantLemmas.{leaf_tells, table_level}
use Rattle.jh_shape.proofs.LawLemmas.{block_there, met_back}
use Rattle.jh_shape.proofs.WantLemmas.{found, leaf_parts}

-- where nothing meets the slot none of its bytes is granted, and a table stands above the last level
tells_by : (claims : Claims) (level start : ℕ) → AreSoundClaims claims → IsSlot level start → (o : Option Region) → leaf_region claims level start ≡ o → DescribesGrants claims level start (want_from claims level start o)
tells_by claims level start sound slot None e =
    let W : Bool → Type 0 = λ met. DescribesGrants claims level start (want_without_leaf met) in
    ⊎_elim
    (λ met. subst W (sym met) (table_level claims level start slot e met))
    (λ unmet. subst W (sym unmet) (λ k l place rights device (region, g).
    let pages = and_parts (nat_lt 0 region.size) (is_page_mapped region) g.mapped in
    both_ways (is_met claims level start) unmet
    (met_back claims level start (record { region = region; among = g.listed; pages = pages.1; at = start + k; first = omega arith; last = omega arith; has = g.has }))))
    (cases_Bool (is_met claims level start))
tells_by claims level start sound slot (Some region) e = leaf_tells claims level start region sound slot e

pub wanted_tells : (claims : Claims) (level start : ℕ) → AreSoundClaims claims → IsSlot level start → DescribesGrants claims level start (want_of claims level start)
wanted_tells claims level start sound slot = tells_by claims level start sound slot (leaf_region claims level start) refl

-- where a leaf leads
abbrev place_or : ℕ → Want → ℕ
place_or other Nothing = other
place_or other Table = other
place_or other (Leaf out rights device) = out

abbrev is_to_leaf : Want → Bool
is_to_leaf Nothing = false
is_to_leaf Table = false
is_to_leaf (Leaf out rights device) = true

no_leaf : (met : Bool) (out : ℕ) (rights : Rights) (device : Bool) → want_without_leaf met ≡ Leaf out rights device → ⊥
no_leaf true out rights device e = both_ways false refl (ap is_to_leaf e)
no_leaf false out rights device e = both_ways false refl (ap is_to_leaf e)

leads_there : (kept : Bool) (own out : ℕ) (rights rights' : Rights) (device device' : Bool) → cond kept Nothing (Leaf own rights device) ≡ Leaf out rights' device' → own ≡ out
leads_there true own out rights rights' device device' e = absurd (both_ways false refl (ap is_to_leaf e))
leads_there false own out rights rights' device device' e = ap (place_or 0) e

-- a place that is aligned like its address, at an address that begins a slot
place_begins : (level phys virt start : ℕ) → level ≤ 3 → start % slot_size level ≡ 0 → phys % slot_size level ≡ virt % slot_size level → virt ≤ start → (phys + (start - virt)) % slot_size level ≡ 0
place_begins zero phys virt start l begins alike low =
    let b : start % 549755813888 ≡ 0 = begins in
    let a : phys % 549755813888 ≡ virt % 549755813888 = alike in
    let e : (phys + (start - virt)) % 549755813888 ≡ 0 = omega arith in e
place_begins (suc zero) phys virt start l begins alike low =
    let b : start % 1073741824 ≡ 0 = begins in
    let a : phys % 1073741824 ≡ virt % 1073741824 = alike in
    let e : (phys + (start - virt)) % 1073741824 ≡ 0 = omega arith in e
place_begins (suc (suc zero)) phys virt start l begins alike low =
    let b : start % 2097152 ≡ 0 = begins in
    let a : phys % 2097152 ≡ virt % 2097152 = alike in
    let e : (phys + (start - virt)) % 2097152 ≡ 0 = omega arith in e
place_begins (suc (suc (suc zero))) phys virt start l begins alike low =
    let b : start % 4096 ≡ 0 = begins in
    let a : phys % 4096 ≡ virt % 4096 = alike in
    let e : (phys + (start - virt)) % 4096 ≡ 0 = omega arith in e
place_begins (suc (suc (suc (suc n)))) phys virt start l begins alike low = absurd (omega arith)

-- where the leaf may stand, and lead
abbrev MayBeWritten : ℕ → ℕ → Type 0
MayBeWritten level out = (0 < level) × (out % slot_size level ≡ 0) × (out + slot_size level ≤ ADDRESS_END)

-- the leaf is of the last level, or a block, whose places are aligned like its addresses
leaf_aligned : (claims : Claims) (level start : ℕ) (region : Region) → IsFit region → is_comm region ≡ false → is_leaf_by claims level start region ≡ true → (0 < level) × (region.phys_start % slot_size level ≡ region.virt_start % slot_size level)
leaf_aligned claims level start region fit plain h =
    let a = and_parts (is_mapped region) (spans region.virt_start (virt_end region) start (slot_size level) && ((level == 3) || may_be_block claims level start region)) h in
    let b = and_parts (spans region.virt_start (virt_end region) start (slot_size level)) ((level == 3) || may_be_block claims level start region) a.1 in
    ⊎_elim
    (λ last.
    let three : level ≡ 3 = eqb-true level 3 last in
    let m = and_parts (nat_lt 0 region.size) (is_page_mapped region) a.0 in
    let p = and_parts ((region.virt_start % 4096) == 0) ((region.size % 4096) == 0) m.1 in
    let virt : region.virt_start % 4096 ≡ 0 = eqb-true (region.virt_start % 4096) 0 p.0 in
    let phys : region.phys_start % 4096 ≡ 0 = fit.aligned a.0 plain in
    let P : ℕ → Type 0 = λ n. (0 < n) × (region.phys_start % slot_size n ≡ region.virt_start % slot_size n) in
    subst P (sym three) (let some : 0 < 3 = omega arith in some, phys ∙ sym virt))
    (λ block. let is = block_there claims level start region block in (is.below, is.aligned))
    (or_cases (level == 3) (may_be_block claims level start region) b.1)

-- a leaf of the communication page is of the last level
leaf_of_page : (claims : Claims) (level start : ℕ) (region : Region) → is_comm region ≡ true → is_leaf_by claims level start region ≡ true → level ≡ 3
leaf_of_page claims level start region comm h =
    let a = and_parts (is_mapped region) (spans region.virt_start (virt_end region) start (slot_size level) && ((level == 3) || may_be_block claims level start region)) h in
    let b = and_parts (spans region.virt_start (virt_end region) start (slot_size level)) ((level == 3) || may_be_block claims level start region) a.1 in
    ⊎_elim
    (λ last. eqb-true level 3 last)
    (λ block. let is = block_there claims level start region block in absurd (both_ways (is_comm region) is.memory comm))
    (or_cases (level == 3) (may_be_block claims level start region) b.1)

out_written : (claims : Claims) (level start : ℕ) (region : Region) → AreSoundClaims claims → IsSlot level start → leaf_region claims level start ≡ Some region → MayBeWritten level (out_of claims region start)
out_written claims level start region sound slot e =
    let f = found (λ (r : Region). is_leaf_by claims level start r) IsFit claims.regions region e sound.fit in
    let h = leaf_parts claims level start region f.0 in
    let M : ℕ → Type 0 = λ out. MayBeWritten level out in
    ⊎_elim
    (λ comm.
    let three = leaf_of_page claims level start region comm f.0 in
    let aligned : claims.comm % 4096 ≡ 0 = sound.comm_aligned in
    let bound : claims.comm < 281474976710656 = sound.comm_bound in
    let fits : claims.comm + 4096 ≤ 281474976710656 = omega arith in
    let some : 0 < 3 = omega arith in
    let P : ℕ → Type 0 = λ n. MayBeWritten n claims.comm in
    subst M (sym (ap (λ v. cond v claims.comm (place_in region start)) comm)) (subst P (sym three) (some, aligned, fits)))
    (λ plain.
    let is = leaf_aligned claims level start region f.1 plain f.0 in
    let low = h.low in
    let high = h.high in
    let ends = f.1.phys h.some plain in
    subst M (sym (ap (λ v. cond v claims.comm (place_in region start)) plain))
    (is.0, place_begins level region.phys_start region.virt_start start slot.last slot.begins is.1 low, omega arith))
    (cases_Bool (is_comm region))

written_by : (claims : Claims) (level start out : ℕ) (rights : Rights) (device : Bool) → AreSoundClaims claims → IsSlot level start → (o : Option Region) → leaf_region claims level start ≡ o → want_from claims level start o ≡ Leaf out rights device → MayBeWritten level out
written_by claims level start out rights device sound slot None e h = absurd (no_leaf (is_met claims level start) out rights device h)
written_by claims level start out rights device sound slot (Some region) e h =
    let M : ℕ → Type 0 = λ out. MayBeWritten level out in
    subst M (leads_there (is_kept_from claims region start) (out_of claims region start) out _ rights _ device h) (out_written claims level start region sound slot e)

pub leaf_written : (claims : Claims) (level start out : ℕ) (rights : Rights) (device : Bool) → AreSoundClaims claims → IsSlot level start → want_of claims level start ≡ Leaf out rights device → (0 < level) × (out % slot_size level ≡ 0) × (out + slot_size level ≤ ADDRESS_END)
leaf_written claims level start out rights device sound slot h =
    written_by claims level start out rights device sound slot (leaf_region claims level start) refl h
