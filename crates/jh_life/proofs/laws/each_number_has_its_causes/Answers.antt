-- Each number tells one cause alone, but for EBUSY, which tells one of two.
use Rattle.std.proofs.Common.{◌≡◌, Some, subst, inl, inr}
use Rattle.std.specs.Prelude.{◌⊎◌, ℤ}
use Rattle.jh_num.specs.declared.error.TheConstants.{EBUSY, EEXIST, EINVAL, ENOMEM, EPERM}
use Rattle.jh_life.specs.CellsView.{CellsView}
use Rattle.jh_life.specs.Causes.{Create, verdict_on, Cause, Locked, Known, TakenCpu, BrokenRule, Overlap, FewPages, number_for, IsFirst}
use Rattle.jh_life.proofs.CauseLemmas.{cause_from, cause_to, none_from, none_to, first_locked, permission_cause, known_cause, busy_cause, invalid_cause, pages_cause}
use Rattle.jh_life.proofs.laws.each_number_has_its_causes.Goals as goal

-- where a number tells one cause alone, that is the first one
only : (seen : CellsView) (create : Create) (number : ℤ) (cause : Cause) → ((other : Cause) → number ≡ number_for other → other ≡ cause) → verdict_on seen create ≡ Some number → IsFirst seen create cause
only seen create number cause one e =
    let r = cause_from seen create number e in
    subst (λ (it : Cause). IsFirst seen create it) (one r.0 r.2) r.1

-- and where it tells one of two
busy : (seen : CellsView) (create : Create) → verdict_on seen create ≡ Some EBUSY → IsFirst seen create TakenCpu ⊎ IsFirst seen create Overlap
busy seen create e =
    let r = cause_from seen create EBUSY e in
    elim (busy_cause r.0 r.2) [
      | inl same ↦ inl (subst (λ (it : Cause). IsFirst seen create it) same r.1)
      | inr same ↦ inr (subst (λ (it : Cause). IsFirst seen create it) same r.1)
    ]

told : (seen : CellsView) (create : Create) → IsFirst seen create TakenCpu ⊎ IsFirst seen create Overlap → verdict_on seen create ≡ Some EBUSY
told seen create (inl first) = cause_to seen create TakenCpu first
told seen create (inr first) = cause_to seen create Overlap first

pub returns-clause-locked : goal.returns-clause-locked
returns-clause-locked c = λ seen create.
    (λ e. (only seen create EPERM Locked permission_cause e).holds, λ h. cause_to seen create Locked (first_locked seen create h))

pub returns-clause-known : goal.returns-clause-known
returns-clause-known c = λ seen create. (only seen create EEXIST Known known_cause, cause_to seen create Known)

pub returns-clause-busy : goal.returns-clause-busy
returns-clause-busy c = λ seen create. (busy seen create, told seen create)

pub returns-clause-invalid : goal.returns-clause-invalid
returns-clause-invalid c = λ seen create. (only seen create EINVAL BrokenRule invalid_cause, cause_to seen create BrokenRule)

pub returns-clause-pages : goal.returns-clause-pages
returns-clause-pages c = λ seen create. (only seen create ENOMEM FewPages pages_cause, cause_to seen create FewPages)

pub returns-clause-none : goal.returns-clause-none
returns-clause-none c = λ seen create. (none_from seen create, none_to seen create)
