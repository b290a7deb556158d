-- A table that is taken out of the one that names it takes its one turn with it.
use Rattle.std.proofs.Common.{◌≡◌, ◌≢◌, ℕ, ◌+◌, ◌-◌, ◌*◌, ◌<◌, suc, refl, ap, ◌∙◌, arith, None}
use Rattle.jh_num.specs.declared.level.TheConstants.{LAST_LEVEL}
use Rattle.jh_num.specs.Below.{sum_below}
use Rattle.jh_num.proofs.Public.{sum_falls}
use Rattle.jh_desc.specs.Descriptors.{read_of}
use Rattle.jh_walk.specs.Counts.{by_next, unmoved}
use Rattle.jh_walk.specs.Pages.{pages_reached}
use Rattle.jh_walk.proofs.Public.{next_same}
use Rattle.jh_edit.specs.Plans.{IsTakenOut}
use Rattle.jh_edit.proofs.BoundLemmas.{pages_more}
use Rattle.jh_edit.proofs.PlanLemmas.{CountsStay}

-- each slot but one leads to as many pages as before
same_slot : CountsStay → (word word' : ℕ → ℕ) (n table slot next : ℕ) → IsTakenOut word word' n table slot next → (i : ℕ) → i < 512 → i ≢ slot
    → by_next (pages_reached word' n) (read_of (word' (table + 8 * i)) (LAST_LEVEL - n)) ≡ by_next (pages_reached word n) (read_of (word (table + 8 * i)) (LAST_LEVEL - n))
same_slot stay word word' n table slot next out i few other =
    ap (λ (w : ℕ). by_next (pages_reached word' n) (read_of w (LAST_LEVEL - n))) (out.others i few other)
    ∙ next_same (pages_reached word' n) (pages_reached word n) (read_of (word (table + 8 * i)) (LAST_LEVEL - n))
    (λ below is. stay unmoved (λ state word n page. 1) word word' n None below (out.below i below few other is) (λ state m page some. refl))

pub one_page_less : CountsStay → (word word' : ℕ → ℕ) (n table slot next : ℕ) → IsTakenOut word word' n table slot next → pages_reached word' (suc n) table + 1 ≡ pages_reached word (suc n) table
one_page_less stay word word' n table slot next out =
    let before : ℕ → ℕ = λ i. by_next (pages_reached word n) (read_of (word (table + 8 * i)) (LAST_LEVEL - n)) in
    let after : ℕ → ℕ = λ i. by_next (pages_reached word' n) (read_of (word' (table + 8 * i)) (LAST_LEVEL - n)) in
    let gone : after slot ≡ 0 = ap (by_next (pages_reached word' n)) out.invalid in
    let there : before slot ≡ 1 = ap (by_next (pages_reached word n)) out.named ∙ out.last in
    let falls : after slot + 1 ≡ before slot = omega arith in
    let sum : sum_below 512 after + 1 ≡ sum_below 512 before = sum_falls 512 before after slot out.within falls (same_slot stay word word' n table slot next out) in
    let old : pages_reached word (suc n) table ≡ 1 + sum_below 512 before = pages_more word n table in
    let new : pages_reached word' (suc n) table ≡ 1 + sum_below 512 after = pages_more word' n table in omega arith
