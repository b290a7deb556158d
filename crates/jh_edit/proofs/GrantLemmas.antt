-- What the wants of sound claims give an address is what is granted there.
use Rattle.std.proofs.Common.{◌≡◌, ℕ, ◌+◌, ◌-◌, ◌*◌, ◌%◌, ◌^◌, ◌<◌, ◌≤◌, ◌==◌, Bool, nat_lt, nat_le, zero, suc, ap, ◌∙◌, sym, subst, arith, refl, Option, Some, None}
use Rattle.std.proofs.lemmas.Bool.{and_parts, and_from, eqb-true, leb-true, ltb-true, le-leb, lt-ltb}
use Rattle.std.proofs.lemmas.Option.{same_Some}
use Rattle.jh_num.specs.declared.address.TheConstants.{ADDRESS_END}
use Rattle.jh_num.specs.declared.level.TheConstants.{LAST_LEVEL}
use Rattle.jh_num.specs.declared.rights.Rights.{Rights}
use Rattle.jh_num.specs.Levels.{slot_size}
use Rattle.jh_desc.specs.declared.descriptor.Hit.{Hit}
use Rattle.jh_desc.specs.Levels.{index_of}
use Rattle.jh_walk.specs.Walks.{hit_of}
use Rattle.jh_cellcfg.specs.Regions.{virt_end}
use Rattle.jh_shape.specs.declared.want.Want.{Want}
use Rattle.jh_shape.specs.declared.want.Want.TheVariants.{Nothing, Table as WantTable, Leaf as WantLeaf}
use Rattle.jh_shape.specs.Claims.{Claims}
use Rattle.jh_shape.specs.Grants.{DescribesGrants, IsGranted}
use Rattle.jh_shape.specs.Laws.{IsMet, IsServed}
use Rattle.jh_shape.specs.Shapes.{want_of}
use Rattle.jh_shape.specs.SoundClaims.{IsSlot}
use Rattle.jh_shape.specs.Wanted.{slot_start}
use Rattle.jh_edit.specs.Trees.{walked, walked_on}

-- the address lies in its slot of a table that it lies in, with so many levels below the table
pub record IsInSlot (n start at : ℕ) : Type 0 where
  pub offset : slot_start (LAST_LEVEL - n) start (index_of (LAST_LEVEL - n) at) + at % slot_size (LAST_LEVEL - n) ≡ at
  pub begins : slot_start (LAST_LEVEL - n) start (index_of (LAST_LEVEL - n) at) % 2 ^ (12 + 9 * n) ≡ 0
  pub size : slot_size (LAST_LEVEL - n) ≡ 2 ^ (12 + 9 * n)
  pub within : at % slot_size (LAST_LEVEL - n) < slot_size (LAST_LEVEL - n)

pub in_slot : (n start at : ℕ) → n ≤ 3 → start % 2 ^ (12 + 9 * suc n) ≡ 0 → start ≤ at → at < start + 2 ^ (12 + 9 * suc n) → IsInSlot n start at
in_slot zero start at few begins low high = record { offset = omega arith; begins = omega arith; size = refl; within = omega arith }
in_slot (suc zero) start at few begins low high = record { offset = omega arith; begins = omega arith; size = refl; within = omega arith }
in_slot (suc (suc zero)) start at few begins low high = record { offset = omega arith; begins = omega arith; size = refl; within = omega arith }
in_slot (suc (suc (suc zero))) start at few begins low high = record { offset = omega arith; begins = omega arith; size = refl; within = omega arith }
in_slot (suc (suc (suc (suc n)))) start at few begins low high = absurd (let wrong : ⊥ = omega arith in wrong)

-- the wants describe what the claims grant
abbrev Describes : Claims → Type 0
Describes claims = (level start : ℕ) → IsSlot level start → DescribesGrants claims level start (want_of claims level start)

abbrev IsGrantedHit : Claims → ℕ → Hit → Type 0
IsGrantedHit claims at hit = IsGranted claims at hit.out hit.rights hit.device

granted_by : (claims : Claims) (level slot at : ℕ) (rest : Option Hit) (hit : Hit) (want : Want) → slot + at % slot_size level ≡ at → at % slot_size level < slot_size level → DescribesGrants claims level slot want
    → (want ≡ WantTable → rest ≡ Some hit → IsGrantedHit claims at hit) → walked_on rest level at want ≡ Some hit → IsGrantedHit claims at hit
granted_by claims level slot at rest hit Nothing offset within tells below e = absurd (let wrong : ⊥ = cc in wrong)
granted_by claims level slot at rest hit WantTable offset within tells below e = below refl e
granted_by claims level slot at rest hit (WantLeaf out rights device) offset within tells below e =
    let same : hit_of level at out rights device ≡ hit = same_Some {A = Hit} (hit_of level at out rights device) hit e in
    subst (IsGrantedHit claims at) same (subst (λ z. IsGranted claims z (out + at % slot_size level) rights device) offset (tells (at % slot_size level) within))

pub walked_granted : (claims : Claims) → Describes claims → (n start at : ℕ) (hit : Hit) → n ≤ 4 → start % 2 ^ (12 + 9 * n) ≡ 0 → start ≤ at → at < start + 2 ^ (12 + 9 * n) → at < ADDRESS_END → walked (want_of claims) n start at ≡ Some hit → IsGrantedHit claims at hit
unfolding walked
walked_granted claims tells zero start at hit few begins low high end e = absurd (let wrong : ⊥ = cc in wrong)
walked_granted claims tells (suc n) start at hit few begins low high end e =
    let here = in_slot n start at (omega arith) begins low high in
    let slot = slot_start (LAST_LEVEL - n) start (index_of (LAST_LEVEL - n) at) in
    let offset : slot + at % slot_size (LAST_LEVEL - n) ≡ at = here.offset in
    let within : at % slot_size (LAST_LEVEL - n) < slot_size (LAST_LEVEL - n) = here.within in
    let size : slot_size (LAST_LEVEL - n) ≡ 2 ^ (12 + 9 * n) = here.size in
    let is : IsSlot (LAST_LEVEL - n) slot = record { first = omega arith; last = omega arith; begins = ap (λ z. slot % z) size ∙ here.begins; bound = omega arith } in
    granted_by claims (LAST_LEVEL - n) slot at (walked (want_of claims) n slot at) hit (want_of claims (LAST_LEVEL - n) slot) offset within (tells (LAST_LEVEL - n) slot is)
    (λ table found. walked_granted claims tells n slot at hit (omega arith) here.begins (omega arith) (omega arith) end found) e

nothing_by : (claims : Claims) (level slot at place : ℕ) (rights : Rights) (device : Bool) (rest : Option Hit) (want : Want) → slot + at % slot_size level ≡ at → at % slot_size level < slot_size level → DescribesGrants claims level slot want
    → (level < LAST_LEVEL → rest ≡ None → IsGranted claims at place rights device → ⊥) → walked_on rest level at want ≡ None → IsGranted claims at place rights device → ⊥
nothing_by claims level slot at place rights device rest Nothing offset within tells below e granted =
    tells (at % slot_size level) within place rights device (subst (λ z. IsGranted claims z place rights device) (sym offset) granted)
nothing_by claims level slot at place rights device rest WantTable offset within tells below e granted = below tells e granted
nothing_by claims level slot at place rights device rest (WantLeaf out rights' device') offset within tells below e granted = let wrong : ⊥ = cc in wrong

pub walked_nothing : (claims : Claims) → Describes claims → (n start at place : ℕ) (rights : Rights) (device : Bool) → 0 < n → n ≤ 4 → start % 2 ^ (12 + 9 * n) ≡ 0 → start ≤ at → at < start + 2 ^ (12 + 9 * n) → at < ADDRESS_END → walked (want_of claims) n start at ≡ None → IsGranted claims at place rights device → ⊥
unfolding walked
walked_nothing claims tells zero start at place rights device some few begins low high end e granted = omega arith
walked_nothing claims tells (suc n) start at place rights device some few begins low high end e granted =
    let here = in_slot n start at (omega arith) begins low high in
    let slot = slot_start (LAST_LEVEL - n) start (index_of (LAST_LEVEL - n) at) in
    let offset : slot + at % slot_size (LAST_LEVEL - n) ≡ at = here.offset in
    let within : at % slot_size (LAST_LEVEL - n) < slot_size (LAST_LEVEL - n) = here.within in
    let size : slot_size (LAST_LEVEL - n) ≡ 2 ^ (12 + 9 * n) = here.size in
    let is : IsSlot (LAST_LEVEL - n) slot = record { first = omega arith; last = omega arith; begins = ap (λ z. slot % z) size ∙ here.begins; bound = omega arith } in
    nothing_by claims (LAST_LEVEL - n) slot at place rights device (walked (want_of claims) n slot at) (want_of claims (LAST_LEVEL - n) slot) offset within (tells (LAST_LEVEL - n) slot is)
    (λ above found. walked_nothing claims tells n slot at place rights device (omega arith) (omega arith) here.begins (omega arith) (omega arith) end found) e granted

-- ---- at the last level no table is wanted

pub page_served : (claims : Claims) (start : ℕ) → start % 4096 ≡ 0 → IsMet claims LAST_LEVEL start → IsServed claims LAST_LEVEL start
page_served claims start begins met =
    let region = met.region in
    let p = and_parts (region.virt_start % 4096 == 0) (region.size % 4096 == 0) met.pages in
    let a : region.virt_start % 4096 ≡ 0 = eqb-true (region.virt_start % 4096) 0 p.0 in
    let b : region.size % 4096 ≡ 0 = eqb-true (region.size % 4096) 0 p.1 in
    let h = and_parts (nat_le region.virt_start met.at) (nat_lt met.at (virt_end region)) met.has in
    let low : region.virt_start ≤ met.at = leb-true region.virt_start met.at h.0 in
    let high : met.at < virt_end region = ltb-true met.at (virt_end region) h.1 in
    let first : start ≤ met.at = met.first in
    let last : met.at < start + 4096 = met.last in (
      region,
      record {
        among = met.among;
        pages = met.pages;
        covers = λ k l. and_from (nat_le region.virt_start (start + k)) (nat_lt (start + k) (virt_end region)) (le-leb region.virt_start (start + k) (omega arith)) (lt-ltb (start + k) (virt_end region) (let m : k < 4096 = l in omega arith));
        block = λ ne. absurd (ne refl);
      },
    )
