-- CPUs that are sought from the lowest on.
use Rattle.std.proofs.Common.{◌≡◌, ℕ, ◌+◌, ◌<◌, ◌≤◌, inl, inr, Bool, true, false, not, ap, ◌∙◌, arith}
use Rattle.std.proofs.lemmas.Bool.{not-true, cases_lt, both_ways, and_parts, and_from, false_from_ne_true}
use Rattle.jh_cellcfg.specs.declared.config.CellConfig.{CellConfig}
use Rattle.jh_cellcfg.specs.Cells.{is_cpu_set}
use Rattle.jh_talk.specs.Cpus.{is_left, NamesForeignCpu}
use Rattle.jh_talk.specs.Private.Seats.{is_foreign, HasFewCpus}

-- no number below the one passes
abbrev pub NoneBelow : (ℕ → Bool) → ℕ → Type 0
NoneBelow test end = (lower : ℕ) → lower < end → test lower ≡ false

pub none_more : (test : ℕ → Bool) (cpu : ℕ) → NoneBelow test cpu → test cpu ≡ false → NoneBelow test (cpu + 1)
none_more test cpu none this lower below =
    elim (cases_lt lower cpu) as (λ w. test lower ≡ false) [
      | inl e ↦ none lower e
      | inr e ↦ ap test (omega arith) ∙ this
    ]

-- where only numbers below the bound may pass, and none does, none passes at all
pub none_at_all : (test : ℕ → Bool) (bound end : ℕ) → ((cpu : ℕ) → test cpu ≡ true → cpu < bound) → bound ≤ end → NoneBelow test end → (cpu : ℕ) → test cpu ≡ false
none_at_all test bound end few all none cpu =
    elim (cases_lt cpu end) as (λ w. test cpu ≡ false) [
      | inl e ↦ none cpu e
      | inr e ↦ false_from_ne_true (test cpu) (λ passes. let small = few cpu passes in omega arith)
    ]

pub few_left : (root cell : CellConfig) → HasFewCpus root → (cpu : ℕ) → is_left root cell cpu ≡ true → cpu < 16
few_left root cell few cpu is = few cpu (and_parts (is_cpu_set root.cpu_set cpu) (not (is_cpu_set cell.cpu_set cpu)) is).0

pub few_foreign : (root cell : CellConfig) → HasFewCpus cell → (cpu : ℕ) → is_foreign root cell cpu ≡ true → cpu < 16
few_foreign root cell few cpu is = few cpu (and_parts (is_cpu_set cell.cpu_set cpu) (not (is_cpu_set root.cpu_set cpu)) is).0

pub foreign_from : (root cell : CellConfig) (cpu : ℕ) → is_foreign root cell cpu ≡ true → NamesForeignCpu root cell
foreign_from root cell cpu is =
    let parts = and_parts (is_cpu_set cell.cpu_set cpu) (not (is_cpu_set root.cpu_set cpu)) is in
    record { cpu = cpu; named = parts.0; lacking = not-true (is_cpu_set root.cpu_set cpu) parts.1 }

pub none_foreign : (root cell : CellConfig) → ((cpu : ℕ) → is_foreign root cell cpu ≡ false) → NamesForeignCpu root cell → ⊥
none_foreign root cell none foreign =
    both_ways (is_foreign root cell foreign.cpu) (none foreign.cpu)
    (and_from (is_cpu_set cell.cpu_set foreign.cpu) (not (is_cpu_set root.cpu_set foreign.cpu)) foreign.named (ap not foreign.lacking))
