-- Fault after fault is ruled out.
use Rattle.std.proofs.Common.{◌≡◌, ℕ, ◌+◌, [], ◌∷◌, get_or, refl, sym, ap, subst, ◌∙◌, inl, inr, arith}
use Rattle.std.proofs.lemmas.Bool.{cases_lt}
use Rattle.jh_cellcfg.specs.declared.config.CellConfig.{CellConfig}
use Rattle.jh_cellcfg.specs.declared.config.SystemConfig.{SystemConfig}
use Rattle.jh_talk.specs.declared.fault.TalkFault.{TalkFault}
use Rattle.jh_talk.specs.declared.fault.TalkFault.TheVariants.{Cell, Cpu, Pool, Device, Section, Ecam, Window, Place, NoMemory}
use Rattle.jh_talk.specs.Faults.{fault_number, SpeaksAgainst, IsFaultlessBelow}

-- the fault of that number
abbrev pub fault_at : ℕ → TalkFault
fault_at number = get_or (NoMemory ∷ Cell ∷ Cpu ∷ Pool ∷ Device ∷ Section ∷ Ecam ∷ Window ∷ Place ∷ []) number NoMemory

same_fault : (fault : TalkFault) → fault_at (fault_number fault) ≡ fault
same_fault Cell = refl
same_fault Cpu = refl
same_fault Pool = refl
same_fault Device = refl
same_fault Section = refl
same_fault Ecam = refl
same_fault Window = refl
same_fault Place = refl
same_fault NoMemory = refl

pub faultless_more : (system : SystemConfig) (cell : CellConfig) (number : ℕ) → IsFaultlessBelow system cell number → (SpeaksAgainst system cell (fault_at number) → ⊥) → IsFaultlessBelow system cell (number + 1)
faultless_more system cell number none this fault below speaks = elim (cases_lt (fault_number fault) number) [
  | inl before ↦ none fault before speaks
  | inr after ↦
      let e : fault_number fault ≡ number = omega arith in
      let Speaks : TalkFault → Type 0 = λ f. SpeaksAgainst system cell f in
      this (subst Speaks (sym (same_fault fault) ∙ ap fault_at e) speaks)
]

pub faultless_first : (system : SystemConfig) (cell : CellConfig) → IsFaultlessBelow system cell 1
faultless_first system cell Cell below = absurd (omega arith)
faultless_first system cell Cpu below = absurd (omega arith)
faultless_first system cell Pool below = absurd (omega arith)
faultless_first system cell Device below = absurd (omega arith)
faultless_first system cell Section below = absurd (omega arith)
faultless_first system cell Ecam below = absurd (omega arith)
faultless_first system cell Window below = absurd (omega arith)
faultless_first system cell Place below = absurd (omega arith)
faultless_first system cell NoMemory below = λ speaks. speaks
