-- The way of a walk, and how many descriptors it reads.
use Rattle.std.proofs.Common.{◌≡◌, ℕ, ◌-◌, ◌<◌, ◌≤◌, ◌⊎◌, inl, inr, ◌∙◌, sym, ap, nat_lt, if◌then◌else◌, List, [], length, None, Some, zero, suc, arith, refl, ltb, Bool, true, false}
use Rattle.std.proofs.lemmas.Bool.{cases_lt}
use Rattle.jh_num.specs.declared.address.TheConstants.{ADDRESS_END}
use Rattle.jh_num.specs.declared.steps.Probe.{Probe}
use Rattle.jh_desc.specs.declared.descriptor.Descriptor.{Descriptor}
use Rattle.jh_desc.specs.declared.descriptor.Descriptor.TheVariants.{Invalid, Table, Leaf}
use Rattle.jh_desc.specs.declared.descriptor.Hit.{Hit}
use Rattle.jh_desc.specs.Descriptors.{read_of}
use Rattle.jh_num.specs.declared.level.TheConstants.{LAST_LEVEL}
use Rattle.jh_walk.specs.Walks.{walk_of, walk_on, probes_of, probes_on, descriptor_at}
use Rattle.jh_walk.specs.Paths.{EndsAtLeaf, IsLeafAt, LeadsTo}
use Rattle.jh_walk.proofs.WalkLemmas.{below_end, past_end}

pub ends_found : (w : ℕ → ℕ) (n t at : ℕ) (hit : Hit) → EndsAtLeaf w n t at hit → walk_of w n t at ≡ Some hit
unfolding walk_of
ends_found w zero t at hit ends = elim ends [ ]
ends_found w (suc n) t at hit (inl leaf) = ap (walk_on (λ next. walk_of w n next at) (LAST_LEVEL - n) at) leaf.descriptor ∙ ap Some (sym leaf.gives)
ends_found w (suc n) t at hit (inr (next, (leads, ends))) =
    ap (walk_on (λ next. walk_of w n next at) (LAST_LEVEL - n) at) leads.descriptor
    ∙ sym (below_end next (walk_of w n next at) None leads.place) ∙ ends_found w n next at hit ends

-- where a walk that finds something goes from a descriptor
abbrev EndsOrLeads : (ℕ → ℕ) → ℕ → ℕ → ℕ → ℕ → Hit → Type 0
EndsOrLeads w n t at level hit = IsLeafAt w level t at hit ⊎ ((next : ℕ) × (LeadsTo w level t at next × EndsAtLeaf w n next at hit))

found_end : (w : ℕ → ℕ) (n t at level next : ℕ) (hit : Hit) → read_of (w (descriptor_at level t at)) level ≡ Table next → (walk_of w n next at ≡ Some hit → EndsAtLeaf w n next at hit) → (if nat_lt next ADDRESS_END then walk_of w n next at else None) ≡ Some hit → (next < ADDRESS_END) ⊎ (ADDRESS_END ≤ next) → EndsOrLeads w n t at level hit
found_end w n t at level next hit is on e (inl lt) = inr (next, (record { descriptor = is; place = lt }, on (below_end next (walk_of w n next at) None lt ∙ e)))
found_end w n t at level next hit is on e (inr le) =
    let wrong : None ≡ Some hit = past_end next (walk_of w n next at) None le ∙ e in cc

found_by : (w : ℕ → ℕ) (n t at level : ℕ) (hit : Hit) (d : Descriptor) → read_of (w (descriptor_at level t at)) level ≡ d → ((next : ℕ) → walk_of w n next at ≡ Some hit → EndsAtLeaf w n next at hit) → walk_on (λ next. walk_of w n next at) level at d ≡ Some hit → EndsOrLeads w n t at level hit
found_by w n t at level hit Invalid is on e = cc
found_by w n t at level hit (Leaf out rights device) is on e = inl (record { out = out; rights = rights; device = device; descriptor = is; gives = cc })
found_by w n t at level hit (Table next) is on e = found_end w n t at level next hit is (on next) e (cases_lt next ADDRESS_END)

pub only_ends : (w : ℕ → ℕ) (n t at : ℕ) (hit : Hit) → walk_of w n t at ≡ Some hit → EndsAtLeaf w n t at hit
unfolding walk_of
only_ends w zero t at hit found = cc
only_ends w (suc n) t at hit found =
    found_by w n t at (LAST_LEVEL - n) hit (read_of (w (descriptor_at (LAST_LEVEL - n) t at)) (LAST_LEVEL - n)) refl (λ next rest. only_ends w n next at hit rest) found

few_of : (b : Bool) (probes : List Probe) (n : ℕ) → length probes ≤ n → length (if b then probes else []) ≤ n
few_of true probes n le = le
few_of false probes n le = omega arith

few_on : (on : ℕ → List Probe) (d : Descriptor) (n : ℕ) → ((next : ℕ) → length (on next) ≤ n) → length (probes_on on d) ≤ n
few_on on Invalid n h = omega arith
few_on on (Leaf out rights device) n h = omega arith
few_on on (Table next) n h = few_of (ltb next ADDRESS_END) (on next) n (h next)

pub few_probes : (w : ℕ → ℕ) (n t at : ℕ) → length (probes_of w n t at) ≤ n
unfolding probes_of
few_probes w zero t at = omega arith
few_probes w (suc n) t at =
    let rest : length (probes_on (λ next. probes_of w n next at) (read_of (w (descriptor_at (LAST_LEVEL - n) t at)) (LAST_LEVEL - n))) ≤ n = few_on (λ next. probes_of w n next at) (read_of (w (descriptor_at (LAST_LEVEL - n) t at)) (LAST_LEVEL - n)) n (λ next. few_probes w n next at) in
    omega arith
