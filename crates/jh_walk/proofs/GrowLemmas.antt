-- Where each word that reads valid stays: a walk that ends at a leaf ends as it did, and no page is reached less
-- often.
use Rattle.std.proofs.Common.{◌≡◌, ℕ, ◌+◌, ◌-◌, ◌*◌, ◌/◌, ◌%◌, ◌<◌, ◌≤◌, ◌⊎◌, inl, inr, ◌∙◌, sym, ap, nat_lt, if◌then◌else◌, None, Some, zero, suc, arith, refl}
use Rattle.std.proofs.lemmas.Bool.{cases_lt}
use Rattle.jh_num.specs.declared.address.TheConstants.{ADDRESS_END}
use Rattle.jh_desc.specs.declared.descriptor.Descriptor.{Descriptor}
use Rattle.jh_desc.specs.declared.descriptor.Descriptor.TheVariants.{Invalid, Table, Leaf}
use Rattle.jh_desc.specs.declared.descriptor.Hit.{Hit}
use Rattle.jh_desc.specs.Descriptors.{read_of}
use Rattle.jh_desc.specs.Levels.{index_of}
use Rattle.jh_num.specs.declared.level.TheConstants.{LAST_LEVEL}
use Rattle.jh_num.specs.Levels.{slot_size}
use Rattle.jh_walk.specs.Walks.{walk_of, walk_on, descriptor_at}
use Rattle.jh_num.specs.Below.{sum_below}
use Rattle.jh_num.proofs.Public.{sum_le}
use Rattle.jh_walk.specs.Counts.{by_next}
use Rattle.jh_walk.specs.Pages.{page_weight, times, Grows, IsKept}
use Rattle.jh_walk.proofs.WalkLemmas.{below_end, past_end}
use Rattle.jh_walk.proofs.LiftLemmas.{slot_times, times_more, times_none}

pub index_small : (x : ℕ) → x % 512 < 512
index_small x = omega arith

next_by : (w w' : ℕ → ℕ) (n at next : ℕ) (hit : Hit) → (walk_of w n next at ≡ Some hit → walk_of w' n next at ≡ Some hit) → (if nat_lt next ADDRESS_END then walk_of w n next at else None) ≡ Some hit → (next < ADDRESS_END) ⊎ (ADDRESS_END ≤ next) → (if nat_lt next ADDRESS_END then walk_of w' n next at else None) ≡ Some hit
next_by w w' n at next hit rest e (inl lt) = sym (below_end next (walk_of w' n next at) None lt) ∙ rest (below_end next (walk_of w n next at) None lt ∙ e)
next_by w w' n at next hit rest e (inr le) = let wrong : None ≡ Some hit = past_end next (walk_of w n next at) None le ∙ e in cc

grow_by : (w w' : ℕ → ℕ) (n level slot at : ℕ) (hit : Hit) (d : Descriptor) → read_of (w slot) level ≡ d → IsKept (Grows w w' n) d (w' slot ≡ w slot) → ((next : ℕ) → Grows w w' n next → walk_of w n next at ≡ Some hit → walk_of w' n next at ≡ Some hit) → walk_on (λ next. walk_of w n next at) level at d ≡ Some hit → walk_on (λ next. walk_of w' n next at) level at (read_of (w' slot) level) ≡ Some hit
grow_by w w' n level slot at hit Invalid is kept rest e = cc
grow_by w w' n level slot at hit (Leaf out rights device) is kept rest e =
    ap (λ z. walk_on (λ next. walk_of w' n next at) level at (read_of z level)) kept ∙ ap (walk_on (λ next. walk_of w' n next at) level at) is ∙ e
grow_by w w' n level slot at hit (Table next) is kept rest e =
    ap (λ z. walk_on (λ next. walk_of w' n next at) level at (read_of z level)) kept.0 ∙ ap (walk_on (λ next. walk_of w' n next at) level at) is
    ∙ next_by w w' n at next hit (rest next kept.1) e (cases_lt next ADDRESS_END)

pub grown_walk : (w w' : ℕ → ℕ) (n t at : ℕ) (hit : Hit) → Grows w w' n t → walk_of w n t at ≡ Some hit → walk_of w' n t at ≡ Some hit
unfolding walk_of
grown_walk w w' zero t at hit grows e = cc
grown_walk w w' (suc n) t at hit grows e =
    let small : index_of (LAST_LEVEL - n) at < 512 = index_small (at / slot_size (LAST_LEVEL - n)) in
    grow_by w w' n (LAST_LEVEL - n) (descriptor_at (LAST_LEVEL - n) t at) at hit (read_of (w (descriptor_at (LAST_LEVEL - n) t at)) (LAST_LEVEL - n)) refl (grows (index_of (LAST_LEVEL - n) at) small)
    (λ next more found. grown_walk w w' n next at hit more found) e

slot_by : (w w' : ℕ → ℕ) (n q level slot : ℕ) (d : Descriptor) → read_of (w slot) level ≡ d → IsKept (Grows w w' n) d (w' slot ≡ w slot) → ((next : ℕ) → Grows w w' n next → times w n next q ≤ times w' n next q) → by_next (λ next. times w n next q) d ≤ by_next (λ next. times w' n next q) (read_of (w' slot) level)
slot_by w w' n q level slot Invalid is kept rest = omega arith
slot_by w w' n q level slot (Leaf out rights device) is kept rest = omega arith
slot_by w w' n q level slot (Table next) is kept rest =
    let same : by_next (λ next'. times w' n next' q) (read_of (w' slot) level) ≡ times w' n next q = ap (λ z. by_next (λ next'. times w' n next' q) (read_of z level)) kept.0 ∙ ap (by_next (λ next'. times w' n next' q)) is in
    let more : times w n next q ≤ times w' n next q = rest next kept.1 in
    omega arith

pub grown_times : (w w' : ℕ → ℕ) (n t q : ℕ) → Grows w w' n t → times w n t q ≤ times w' n t q
grown_times w w' zero t q grows =
    let a : times w 0 t q ≡ 0 = times_none w t q in omega arith
grown_times w w' (suc n) t q grows =
    let a : times w (suc n) t q ≡ page_weight q w n t + sum_below 512 (slot_times w n t q) = times_more w n t q in
    let b : times w' (suc n) t q ≡ page_weight q w' n t + sum_below 512 (slot_times w' n t q) = times_more w' n t q in
    let slots : sum_below 512 (slot_times w n t q) ≤ sum_below 512 (slot_times w' n t q) = sum_le 512 (slot_times w n t q) (slot_times w' n t q) (λ i lt.
    slot_by w w' n q (LAST_LEVEL - n) (t + 8 * i) (read_of (w (t + 8 * i)) (LAST_LEVEL - n)) refl (grows i lt) (λ next more. grown_times w w' n next q more)) in
    omega arith
