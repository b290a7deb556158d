-- What makes a leaf, taken apart.
use Rattle.std.proofs.Common.{◌≡◌, ℕ, ◌+◌, ◌-◌, ◌*◌, ◌<◌, ◌≤◌, ◌==◌, Bool, true, false, ◌&&◌, ◌||◌, nat_lt, nat_le, List, [], ◌∷◌, Some, All, ⊎_elim, sym, subst, ◌∙◌, arith, cond, not, refl}
use Rattle.std.specs.List.{find, list_any}
use Rattle.std.specs.Prelude.{is_none}
use Rattle.std.proofs.lemmas.Bool.{and_parts, ltb-true, leb-true, cases_Bool, cond-true, cond-false}
use Rattle.std.proofs.lemmas.Nat.{pow_pos}
use Rattle.std.proofs.lemmas.List.Elements.{All-head, All-tail}
use Rattle.jh_num.specs.declared.address.TheConstants.{ADDRESS_END}
use Rattle.jh_cellcfg.specs.declared.region.Region.{Region}
use Rattle.jh_cellcfg.specs.Regions.{virt_end, is_comm, is_page_mapped, place_in}
use Rattle.jh_shape.specs.Claims.{Claims}
use Rattle.jh_shape.specs.Intervals.{spans}
use Rattle.jh_shape.specs.Shapes.{is_mapped, may_be_block, is_leaf_by, leaf_region}
use Rattle.jh_num.specs.Levels.{slot_size}
use Rattle.jh_shape.specs.SoundClaims.{IsFit, AreSoundClaims}

-- what `find` gives passes the test, and has what all have
pub found : (p : Region → Bool) (Q : Region → Type 0) (xs : List Region) (x : Region) → find p xs ≡ Some x → All Q xs → (p x ≡ true) × Q x
found p Q [] x e a = cc
found p Q (y ∷ ys) x e a =
    ⊎_elim
    (λ yes.
    let some : Some y ≡ Some x = sym (cond-true (p y) (Some y) (find p ys) yes) ∙ e in
    let same : y ≡ x = cc in
    (rw (← same) yes, subst Q same (All-head Q y ys a)))
    (λ no. found p Q ys x (sym (cond-false (p y) (Some y) (find p ys) no) ∙ e) (All-tail Q y ys a))
    (cases_Bool (p y))

-- `find` finds exactly where some element passes
pub is_none_find : {X : Type 0} (p : X → Bool) (xs : List X) → is_none (find p xs) ≡ not (list_any p xs)
is_none_find p [] = refl
is_none_find p (x ∷ xs) =
    elim (p x) as (λ b. is_none (cond b (Some x) (find p xs)) ≡ not (b || list_any p xs)) [ true ↦ refl | false ↦ is_none_find p xs ]

-- the parts of a leaf
pub record LeafBy (claims : Claims) (level start : ℕ) (region : Region) : Type 0 where
  pub mapped : is_mapped region ≡ true
  pub some : 0 < region.size
  pub low : region.virt_start ≤ start
  pub high : start + slot_size level ≤ virt_end region

pub leaf_parts : (claims : Claims) (level start : ℕ) (region : Region) → is_leaf_by claims level start region ≡ true → LeafBy claims level start region
leaf_parts claims level start region h =
    let a = and_parts (is_mapped region) (spans region.virt_start (virt_end region) start (slot_size level) && ((level == 3) || may_be_block claims level start region)) h in
    let b = and_parts (spans region.virt_start (virt_end region) start (slot_size level)) ((level == 3) || may_be_block claims level start region) a.1 in
    let m = and_parts (nat_lt 0 region.size) (is_page_mapped region) a.0 in
    let s = and_parts (nat_le region.virt_start start) (nat_le (start + slot_size level) (virt_end region)) b.0 in
    record {
      mapped = a.0;
      some = ltb-true 0 region.size m.0;
      low = leb-true region.virt_start start s.0;
      high = leb-true (start + slot_size level) (virt_end region) s.1;
    }

pub leaf_place : (claims : Claims) (level start : ℕ) (region : Region) → AreSoundClaims claims → leaf_region claims level start ≡ Some region → is_comm region ≡ false → place_in region start < ADDRESS_END
leaf_place claims level start region sound e plain =
    let f = found (λ (r : Region). is_leaf_by claims level start r) IsFit claims.regions region e sound.fit in
    let l = leaf_parts claims level start region f.0 in
    let bound = f.1.phys l.some plain in
    let size = pow_pos (39 - 9 * level) in
    omega arith
