-- A page counts exactly where a way of table descriptors leads to it.
use Rattle.std.proofs.Common.{◌≡◌, ℕ, ◌+◌, ◌-◌, ◌*◌, ◌<◌, ◌⊎◌, inl, inr, zero, suc, Option, None, arith, refl}
use Rattle.std.proofs.lemmas.Bool.{cases_eq}
use Rattle.jh_desc.specs.declared.descriptor.Descriptor.{Descriptor}
use Rattle.jh_desc.specs.declared.descriptor.Descriptor.TheVariants.{Invalid, Table, Leaf}
use Rattle.jh_desc.specs.Descriptors.{read_of}
use Rattle.jh_num.specs.declared.level.TheConstants.{LAST_LEVEL}
use Rattle.jh_num.specs.Below.{sum_below}
use Rattle.jh_walk.specs.Counts.{by_next, unmoved, IsReachedAs, NamesTable, Step}
use Rattle.jh_walk.specs.Pages.{page_weight, times, IsReached}
use Rattle.jh_walk.proofs.LiftLemmas.{slot_times, times_more, times_none}

zero_or : (n : ℕ) → (n ≡ 0) ⊎ (0 < n)
zero_or zero = inl refl
zero_or (suc n) = inr (omega arith)

-- a sum that counts has a term that counts
some_term : (n : ℕ) (f : ℕ → ℕ) → 0 < sum_below n f → (i : ℕ) × (i < n) × (0 < f i)
unfolding sum_below
some_term zero f some = elim some [ ]
some_term (suc n) f some = elim (zero_or (f n)) [
  | inl none ↦ let below = some_term n f (omega arith) in (below.0, omega (arith, below.1), below.2)
  | inr here ↦ (n, omega arith, here)
]

-- what a descriptor leads on to counts where it names a table whose count does
names_some : (f : ℕ → ℕ) (d : Descriptor) → 0 < by_next f d → (next : ℕ) × ((d ≡ Table next) × (0 < f next))
names_some f Invalid some = elim some [ ]
names_some f (Leaf out rights device) some = elim some [ ]
names_some f (Table next) some = (next, (refl, some))

pub reached_in : (step : Step) (word : ℕ → ℕ) (n : ℕ) (s : Option ℕ) (t q : ℕ) → 0 < times word n t q → (left : ℕ) × ((there : Option ℕ) × IsReachedAs step word n s t left there q)
reached_in step word zero s t q some =
    let none : times word 0 t q ≡ 0 = times_none word t q in absurd (omega arith)
reached_in step word (suc n) s t q some = elim (cases_eq t q) [
  | inl here ↦ (suc n, (s, inl (refl, (here, refl))))
  | inr other ↦
      let all : times word (suc n) t q ≡ page_weight q word n t + sum_below 512 (slot_times word n t q) = times_more word n t q in
      let own : page_weight q word n t ≡ 0 = grind arith in
      let slot = some_term 512 (slot_times word n t q) (omega arith) in
      let leads = names_some (λ next. times word n next q) (read_of (word (t + 8 * slot.0)) (LAST_LEVEL - n)) slot.2 in
      let below = reached_in step word n (step s n slot.0) leads.0 q leads.1.1 in
      let names : NamesTable word (LAST_LEVEL - n) t slot.0 leads.0 = record { within = slot.1; descriptor = leads.1.0 } in
      (below.0, (below.1.0, inr (slot.0, leads.0, (names, below.1.1))))
]

-- where the state is the same everywhere, it is that of the first table
pub stays_none : (word : ℕ → ℕ) (n t left : ℕ) (there : Option ℕ) (q : ℕ) → IsReachedAs unmoved word n None t left there q → IsReached word n t left q
stays_none word zero t left there q on = on
stays_none word (suc n) t left there q (inl (e, (is, same))) = inl (e, (is, refl))
stays_none word (suc n) t left there q (inr (slot, next, (names, on))) = inr (slot, next, (names, stays_none word n next left there q on))

pub reached_plain : (word : ℕ → ℕ) (n t q : ℕ) → 0 < times word n t q → (left : ℕ) × IsReached word n t left q
reached_plain word n t q some = let on = reached_in unmoved word n None t q some in (on.0, stays_none word n t on.0 on.1.0 q on.1.1)
