-- What a new cell is refused for by other CPUs that may be given away, and what isn't refused.
use Rattle.std.proofs.Common.{◌≡◌, ℕ, Bool, true, false, not, ◌==◌, nat_lt, List, ◌∷◌, Some, None, refl, sym, ap, inl, inr, ◌∙◌}
use Rattle.std.specs.Prelude.{Option, ℤ, if◌then◌else◌, is_some, IfNone, IsTrue}
use Rattle.std.proofs.lemmas.Bool.{false≢true, cases_Bool, eq-eqb, and_left, and_right, not_from_true}
use Rattle.jh_num.specs.declared.error.TheConstants.{EBUSY, EEXIST, ENOMEM}
use Rattle.jh_cellcfg.specs.declared.config.CellConfig.{CellConfig}
use Rattle.jh_cellcfg.specs.declared.config.SystemConfig.{SystemConfig}
use Rattle.jh_check.specs.declared.verdict.NewCell.{NewCell}
use Rattle.jh_check.specs.declared.verdict.NewCell.TheVariants.{Clean, Invalid, Busy}
use Rattle.jh_check.specs.Verdicts.{verdict_of}
use Rattle.jh_check.specs.Refusals.{is_known, names_beyond, nobody, by_check, refusal_of}
use Rattle.jh_num.specs.Bits.{has_bit}
use Rattle.jh_life.specs.Verdict.{may_have}

-- other CPUs that may be given away, or another count of pages, that are the same
pub refused_same : (system : SystemConfig) (live : List CellConfig) (new : CellConfig) (may other : ℕ → Bool) (pages more pool : ℕ) → ((cpu : ℕ) → may cpu ≡ other cpu) → pages ≡ more → refusal_of system live new may pages pool ≡ refusal_of system live new other more pool
refused_same system live new may other pages more pool same count =
    ap (λ (m : ℕ → Bool). refusal_of system live new m pages pool) (λ i cpu. same cpu i)
    ∙ ap (λ n. refusal_of system live new other n pool) count

abbrev by_tests : Bool → Bool → NewCell → ℕ → ℕ → Option ℤ
by_tests known busy found pages pool =
    if known then Some EEXIST else (if busy then Some EBUSY else by_check found (if nat_lt pool pages then Some ENOMEM else None))

-- what isn't refused has no namesake
tests_none : (known busy : Bool) (found : NewCell) (p q : ℕ) → by_tests known busy found p q ≡ None → known ≡ false
tests_none true busy found p q e = cc
tests_none false busy found p q e = refl

pub accepted_none : (system : SystemConfig) (live : List CellConfig) (new : CellConfig) (may : ℕ → Bool) (p q : ℕ) → refusal_of system live new may p q ≡ None → is_known (system.root ∷ live) new ≡ false
unfolding refusal_of
accepted_none system live new may p q e = tests_none (is_known (system.root ∷ live) new) (names_beyond may new.cpu_set) (verdict_of system live new) p q e

pub accepted_unknown : (o : Option ℤ) (system : SystemConfig) (live : List CellConfig) (new : CellConfig) (may : ℕ → Bool) (p q : ℕ) → o ≡ refusal_of system live new may p q → IfNone o (is_known (system.root ∷ live) new ≡ false)
accepted_unknown None system live new may p q e = accepted_none system live new may p q (sym e)
accepted_unknown (Some x) system live new may p q e = tt

pub if_none_from : (o : Option ℤ) (P : Type 0) → P → IfNone o P
if_none_from None P h = h
if_none_from (Some x) P h = tt

pub if_none_some : (o : Option ℤ) (P : Type 0) → is_some o ≡ true → IfNone o P
if_none_some None P e = absurd (false≢true e)
if_none_some (Some x) P e = tt

-- where there are no pages to be wanted: what is refused then is refused for whatever pages
tests_before : (known busy : Bool) (found : NewCell) (p q : ℕ) (x : ℤ) → by_tests known busy found 0 0 ≡ Some x → by_tests known busy found p q ≡ Some x
tests_before true busy found p q x e = e
tests_before false true found p q x e = e
tests_before false false Invalid p q x e = e
tests_before false false Busy p q x e = e
tests_before false false Clean p q x e = let f : None ≡ Some x = e in cc

refused_before : (system : SystemConfig) (live : List CellConfig) (new : CellConfig) (may : ℕ → Bool) (p q : ℕ) (x : ℤ) → refusal_of system live new may 0 0 ≡ Some x → refusal_of system live new may p q ≡ Some x
unfolding refusal_of
refused_before system live new may p q x e = tests_before (is_known (system.root ∷ live) new) (names_beyond may new.cpu_set) (verdict_of system live new) p q x e

pub refused_kept : {x : ℤ} (system : SystemConfig) (live : List CellConfig) (new : CellConfig) (may : ℕ → Bool) (p q : ℕ) → refusal_of system live new may 0 0 ≡ Some x → refusal_of system live new may 0 0 ≡ refusal_of system live new may p q
refused_kept system live new may p q e = e ∙ sym (refused_before system live new may p q _ e)

-- and what isn't is left to the pages
tests_left : (known busy : Bool) (found : NewCell) (p q : ℕ) → by_tests known busy found 0 0 ≡ None → by_tests known busy found p q ≡ (if nat_lt q p then Some ENOMEM else None)
tests_left true busy found p q e = cc
tests_left false true found p q e = cc
tests_left false false Invalid p q e = cc
tests_left false false Busy p q e = cc
tests_left false false Clean p q e = refl

pub refused_left : (system : SystemConfig) (live : List CellConfig) (new : CellConfig) (may : ℕ → Bool) (p q : ℕ) → refusal_of system live new may 0 0 ≡ None → refusal_of system live new may p q ≡ (if nat_lt q p then Some ENOMEM else None)
unfolding refusal_of
refused_left system live new may p q e = tests_left (is_known (system.root ∷ live) new) (names_beyond may new.cpu_set) (verdict_of system live new) p q e

-- beside the same cells
pub same_cells : (s system : SystemConfig) (l live : List CellConfig) (new : CellConfig) (may other : ℕ → Bool) (p q : ℕ) → s ≡ system → l ≡ live → ((cpu : ℕ) → may cpu ≡ other cpu) → refusal_of s l new may p q ≡ refusal_of system live new other p q
same_cells s system l live new may other p q e f same =
    ap (λ (x : SystemConfig). refusal_of x l new may p q) e
    ∙ ap (λ (x : List CellConfig). refusal_of system x new may p q) f
    ∙ ap (λ (m : ℕ → Bool). refusal_of system live new m p q) (λ i cpu. same cpu i)

-- a CPU of the mask that is the caller's isn't given away
pub may_none : (owned caller cpu : ℕ) → (IsTrue (has_bit owned cpu) → cpu ≡ caller) → nobody cpu ≡ may_have owned caller cpu
may_none owned caller cpu only =
    elim (cases_Bool (has_bit owned cpu)) [
      | inl set ↦
          let is : cpu ≡ caller = only set in
          sym (and_right (has_bit owned cpu) (not (cpu == caller)) (not_from_true (cpu == caller) (eq-eqb cpu caller is)))
      | inr unset ↦ sym (and_left (has_bit owned cpu) (not (cpu == caller)) unset)
    ]
