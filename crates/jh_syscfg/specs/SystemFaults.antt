-- The first fault of bytes that are no system.
use Rattle.std.specs.Prelude.{◌≡◌, ℕ, nat_lt, List, [], ◌∷◌, length, drop, codes, Option, None, Result, IfOk}
use Rattle.jh_cellcfg.specs.declared.config.SystemConfig.{SystemConfig}
use Rattle.jh_cellcfg.specs.declared.fault.ConfigFault.{ConfigFault}
use Rattle.jh_cellcfg.specs.declared.fault.ConfigFault.TheVariants.{Short}
use Rattle.jh_cellcfg.specs.Faults.{fault_if, first_of, start_fault, body_fault, refusal}

-- the first fault of all the bytes, if they have one: root's name and parts stand behind 96 bytes,
-- and what is between the revision and them has no fault
abbrev pub system_fault : List ℕ → Option ConfigFault
system_fault bytes = first_of (
    fault_if (nat_lt (length bytes) 220) (Short 220)
    ∷ start_fault (codes "JHSYST") bytes
    ∷ body_fault 96 (drop 96 bytes)
    ∷ [])

-- the call answered this system, but for want of memory
pub record GivesSystem (answer : Result SystemConfig ConfigFault) (system : SystemConfig) : Type 0 where
  pub unrefused : refusal answer ≡ None
  pub found : IfOk answer (λ other. other ≡ system)
