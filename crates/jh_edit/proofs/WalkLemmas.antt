-- Tables that stand give an address what the wants alone give it.
use Rattle.std.proofs.Common.{◌≡◌, ℕ, ◌-◌, ◌/◌, ◌<◌, ◌∙◌, ap, if◌then◌else◌, Option, None, zero, suc, refl}
use Rattle.std.proofs.lemmas.Bool.{lt-ltb}
use Rattle.jh_num.specs.declared.address.TheConstants.{ADDRESS_END}
use Rattle.jh_num.specs.declared.level.TheConstants.{LAST_LEVEL}
use Rattle.jh_num.specs.Levels.{slot_size}
use Rattle.jh_desc.specs.declared.descriptor.Descriptor.{Descriptor}
use Rattle.jh_desc.specs.declared.descriptor.Hit.{Hit}
use Rattle.jh_desc.specs.Descriptors.{read_of}
use Rattle.jh_desc.specs.Levels.{index_of}
use Rattle.jh_walk.specs.Walks.{descriptor_at, walk_of, walk_on}
use Rattle.jh_shape.specs.declared.want.Want.{Want}
use Rattle.jh_shape.specs.declared.want.Want.TheVariants.{Nothing, Table as WantTable, Leaf as WantLeaf}
use Rattle.jh_shape.specs.Wanted.{Wants, slot_start}
use Rattle.jh_walk.proofs.Public.{index_small}
use Rattle.jh_edit.specs.Trees.{IsAsWanted, Stands, walked, walked_on}
use Rattle.jh_edit.proofs.DescriptorLemmas.{named_below}
use Rattle.jh_edit.proofs.StandLemmas.{stand_down}

step_as : (on : ℕ → Option Hit) (rest : Option Hit) (right : ℕ → Type 0) (level at word : ℕ) (want : Want) (d : Descriptor) → read_of word level ≡ d → IsAsWanted right want d → ((next : ℕ) → right next → on next ≡ rest) → walk_on on level at d ≡ walked_on rest level at want
step_as on rest right level at word Nothing d is e below = ap (walk_on on level at) e
step_as on rest right level at word WantTable d is (next, (e, more)) below =
    let small : next < ADDRESS_END = named_below word level next (is ∙ e) in
    ap (walk_on on level at) e ∙ ap (λ b. if b then on next else None) (lt-ltb next ADDRESS_END small) ∙ below next more
step_as on rest right level at word (WantLeaf out rights device) d is e below = ap (walk_on on level at) e

pub walk_as : (want : Wants) (word : ℕ → ℕ) (n table start at : ℕ) → Stands want word n table start → walk_of word n table at ≡ walked want n start at
unfolding walk_of walked
walk_as want word zero table start at stands = refl
walk_as want word (suc n) table start at stands =
    let small : index_of (LAST_LEVEL - n) at < 512 = index_small (at / slot_size (LAST_LEVEL - n)) in
    let slot = slot_start (LAST_LEVEL - n) start (index_of (LAST_LEVEL - n) at) in
    step_as (λ next. walk_of word n next at) (walked want n slot at) (λ next. Stands want word n next slot) (LAST_LEVEL - n) at (word (descriptor_at (LAST_LEVEL - n) table at))
    (want (LAST_LEVEL - n) slot) (read_of (word (descriptor_at (LAST_LEVEL - n) table at)) (LAST_LEVEL - n)) refl
    (stand_down want word n table start stands (index_of (LAST_LEVEL - n) at) small) (λ next more. walk_as want word n next slot at more)
