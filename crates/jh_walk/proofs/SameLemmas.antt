-- Walks over words that are the same in all pages that are reached.
use Rattle.std.proofs.Common.{◌≡◌, ℕ, ◌+◌, ◌-◌, ◌*◌, ◌/◌, ◌<◌, ◌≤◌, ◌∙◌, sym, ap, nat_lt, if◌then◌else◌, List, [], ◌∷◌, Option, None, zero, suc, arith, refl}
use Rattle.jh_num.specs.declared.address.TheConstants.{ADDRESS_END}
use Rattle.jh_num.specs.declared.steps.Probe.{Probe}
use Rattle.jh_desc.specs.declared.descriptor.Descriptor.{Descriptor}
use Rattle.jh_desc.specs.declared.descriptor.Descriptor.TheVariants.{Invalid, Table, Leaf}
use Rattle.jh_desc.specs.declared.descriptor.Hit.{Hit}
use Rattle.jh_desc.specs.Descriptors.{read_of}
use Rattle.jh_desc.specs.Levels.{index_of}
use Rattle.jh_num.specs.declared.level.TheConstants.{LAST_LEVEL}
use Rattle.jh_num.specs.Levels.{slot_size}
use Rattle.jh_walk.specs.Walks.{walk_of, walk_on, probes_of, probes_on, descriptor_at}
use Rattle.jh_num.specs.Below.{sum_below}
use Rattle.jh_walk.specs.Counts.{by_next, count_from, Step, StateWeight}
use Rattle.jh_walk.specs.Pages.{times, HaveSameTables, HaveSameWeights}
use Rattle.jh_num.proofs.Public.{sum_same}
use Rattle.jh_walk.proofs.LiftLemmas.{slot_counts, count_more, count_none, next_same, self_times, times_below}
use Rattle.jh_walk.proofs.GrowLemmas.{index_small}

-- the words of a page that the page leads to are the same too
pub same_below : (w w' : ℕ → ℕ) (n t i next : ℕ) → HaveSameTables w w' (suc n) t → i < 512 → read_of (w (t + 8 * i)) (LAST_LEVEL - n) ≡ Table next → HaveSameTables w w' n next
same_below w w' n t i next same lt leads = record {
  words = λ q j some small.
      let le : times w n next q ≤ times w (suc n) t q = times_below w n t q i next lt leads in
      same.words q j (omega arith) small;
}

pub same_here : (w w' : ℕ → ℕ) (n t i : ℕ) → HaveSameTables w w' (suc n) t → i < 512 → w' (t + 8 * i) ≡ w (t + 8 * i)
same_here w w' n t i same lt = same.words t i (self_times w n t t refl) lt

on_same : (on on' : ℕ → Option Hit) (level at : ℕ) (d : Descriptor) → ((next : ℕ) → d ≡ Table next → on' next ≡ on next) → walk_on on' level at d ≡ walk_on on level at d
on_same on on' level at Invalid h = refl
on_same on on' level at (Leaf out rights device) h = refl
on_same on on' level at (Table next) h = ap (λ o. if nat_lt next ADDRESS_END then o else None) (h next refl)

pub walk_same : (w w' : ℕ → ℕ) (n t at : ℕ) → HaveSameTables w w' n t → walk_of w' n t at ≡ walk_of w n t at
unfolding walk_of
walk_same w w' zero t at same = refl
walk_same w w' (suc n) t at same =
    let small : index_of (LAST_LEVEL - n) at < 512 = index_small (at / slot_size (LAST_LEVEL - n)) in
    let word : w' (descriptor_at (LAST_LEVEL - n) t at) ≡ w (descriptor_at (LAST_LEVEL - n) t at) = same_here w w' n t (index_of (LAST_LEVEL - n) at) same small in
    ap (λ z. walk_on (λ next. walk_of w' n next at) (LAST_LEVEL - n) at (read_of z (LAST_LEVEL - n))) word
    ∙ on_same (λ next. walk_of w n next at) (λ next. walk_of w' n next at) (LAST_LEVEL - n) at (read_of (w (descriptor_at (LAST_LEVEL - n) t at)) (LAST_LEVEL - n)) (λ next leads.
    walk_same w w' n next at (same_below w w' n t (index_of (LAST_LEVEL - n) at) next same small leads))

probes_on_same : (on on' : ℕ → List Probe) (d : Descriptor) → ((next : ℕ) → d ≡ Table next → on' next ≡ on next) → probes_on on' d ≡ probes_on on d
probes_on_same on on' Invalid h = refl
probes_on_same on on' (Leaf out rights device) h = refl
probes_on_same on on' (Table next) h = ap (λ (o : List Probe). if nat_lt next ADDRESS_END then o else []) (h next refl)

pub probes_same : (w w' : ℕ → ℕ) (n t at : ℕ) → HaveSameTables w w' n t → probes_of w' n t at ≡ probes_of w n t at
unfolding probes_of
probes_same w w' zero t at same = refl
probes_same w w' (suc n) t at same =
    let small : index_of (LAST_LEVEL - n) at < 512 = index_small (at / slot_size (LAST_LEVEL - n)) in
    let word : w' (descriptor_at (LAST_LEVEL - n) t at) ≡ w (descriptor_at (LAST_LEVEL - n) t at) = same_here w w' n t (index_of (LAST_LEVEL - n) at) same small in
    let first : Probe = record { at = descriptor_at (LAST_LEVEL - n) t at; word = w (descriptor_at (LAST_LEVEL - n) t at) } in
    ap (λ z. record { at = descriptor_at (LAST_LEVEL - n) t at; word = z } ∷ probes_on (λ next. probes_of w' n next at) (read_of z (LAST_LEVEL - n))) word
    ∙ ap (λ l. first ∷ l) (probes_on_same (λ next. probes_of w n next at) (λ next. probes_of w' n next at) (read_of (w (descriptor_at (LAST_LEVEL - n) t at)) (LAST_LEVEL - n)) (λ next leads.
    probes_same w w' n next at (same_below w w' n t (index_of (LAST_LEVEL - n) at) next same small leads)))

weights_below : (weight : StateWeight) (w w' : ℕ → ℕ) (n t i next : ℕ) → HaveSameWeights weight w w' (suc n) t → i < 512 → read_of (w (t + 8 * i)) (LAST_LEVEL - n) ≡ Table next → HaveSameWeights weight w w' n next
weights_below weight w w' n t i next same lt leads s m q some =
    let le : times w n next q ≤ times w (suc n) t q = times_below w n t q i next lt leads in
    same s m q (omega arith)

-- pages with the same words that weigh the same count the same
pub counts_same : (step : Step) (weight : StateWeight) (w w' : ℕ → ℕ) (n : ℕ) (s : Option ℕ) (t : ℕ) → HaveSameTables w w' n t → HaveSameWeights weight w w' n t → count_from step weight w' n s t ≡ count_from step weight w n s t
counts_same step weight w w' zero s t same weighs = count_none step weight w' s t ∙ sym (count_none step weight w s t)
counts_same step weight w w' (suc n) s t same weighs =
    let own : weight s w' n t ≡ weight s w n t = weighs s n t (self_times w n t t refl) in
    let slots : sum_below 512 (slot_counts step weight w' n s t) ≡ sum_below 512 (slot_counts step weight w n s t) = sum_same 512 (slot_counts step weight w' n s t) (slot_counts step weight w n s t) (λ i lt.
    ap (λ z. by_next (count_from step weight w' n (step s n i)) (read_of z (LAST_LEVEL - n))) (same_here w w' n t i same lt)
    ∙ next_same (count_from step weight w' n (step s n i)) (count_from step weight w n (step s n i)) (read_of (w (t + 8 * i)) (LAST_LEVEL - n)) (λ next leads.
    counts_same step weight w w' n (step s n i) next (same_below w w' n t i next same lt leads) (weights_below weight w w' n t i next weighs lt leads))) in
    count_more step weight w' n s t ∙ (ap (λ x. x + sum_below 512 (slot_counts step weight w' n s t)) own ∙ (ap (λ x. weight s w n t + x) slots ∙ sym (count_more step weight w n s t)))
