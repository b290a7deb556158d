-- What `plan` ends with.
use Rattle.std.specs.Prelude.{◌≡◌, ◌≢◌, ◌<◌, ℕ, ◌⊎◌, List, [], length, Ok, Err}
use Rattle.jh_cellcfg.specs.declared.config.SystemConfig.{SystemConfig}
use Rattle.jh_check.specs.Findings.{findings}
use Rattle.jh_check.specs.Lists.{capped}
use Rattle.jh_history.specs.Admitted.{pool_pages, root_pages, IsAdmittedSystem}
use Rattle.jh_plan.specs.declared.demand.Demand.{Demand}
use Rattle.jh_plan.specs.declared.fault.DemandsFault.{DemandsFault}
use Rattle.jh_plan.specs.declared.fault.PlanFault.TheVariants.{Demand as AtDemand}
use Rattle.jh_plan.specs.declared.fault.Why.{Why}
use Rattle.jh_plan.specs.declared.planning.Planned.{Planned}
use Rattle.jh_plan.specs.Demands.{demands_of}
use Rattle.jh_plan.specs.FaultText.{demands_fault_text, plan_fault_text}
use Rattle.jh_plan.specs.Plans.{IsFirstUnmet, IsPlan}
use Rattle.jh_plan.specs.SpecText.{plan_text}
use Rattle.jh_image.specs.declared.fault.ImageCause.{ImageCause}
use Rattle.jh_image.specs.declared.fault.ImageCause.TheVariants.{Findings, PoolSmall}
use Rattle.jh_image.specs.Files.{Contents}
use Rattle.jh_image.specs.Texts.{cause_text}
use Rattle.jh_cli.specs.Check.{IsSystemFile, SystemRefusal}
use Rattle.jh_cli.specs.Lines.{refusal_line}
use Rattle.jh_cli.specs.Reading.{Reply, FileKind, Reads, RefusesOversize}
use Rattle.jh_cli.specs.declared.status.Status.TheVariants.{Good, Refused}
use Rattle.jh_cli.specs.Limits.{asked_of_a_file}

-- ---- the system

-- no board has the system, for this cause: the check finds something in it alone, of which the first thousand are told;
-- or else root takes more pages than the pool has
abbrev pub IsUnadmitted : SystemConfig → ImageCause → Type 0
IsUnadmitted system (Findings found) = (findings system [] ≢ []) × (found ≡ capped (findings system []))
IsUnadmitted system (PoolSmall need have) =
    (findings system [] ≡ []) × (pool_pages system < root_pages system) × (need ≡ root_pages system) × (have ≡ pool_pages system)
IsUnadmitted system cause = ⊥

-- the bytes of a file are those of this system, which a board may have
pub record IsAdmittedSystemFile (bytes : List ℕ) (system : SystemConfig) : Type 0 where
  pub file : IsSystemFile bytes system
  pub admitted : IsAdmittedSystem system

-- the bytes of a file are those of a system that no board has, for the cause that these words tell
pub record IsUnadmittedSystemFile (bytes words : List ℕ) : Type 0 where
  pub system : SystemConfig
  pub file : IsSystemFile bytes system
  pub cause : ImageCause
  pub is : IsUnadmitted system cause
  pub told : words ≡ cause_text cause

-- a system's file of these bytes is refused by these words: it is too large, no system's, or that of one that no board
-- has
abbrev pub AdmittedRefusal : List ℕ → List ℕ → Type 0
AdmittedRefusal bytes words = SystemRefusal bytes words ⊎ IsUnadmittedSystemFile bytes words

-- the file of a system that a board may have
abbrev pub admitted_file : FileKind SystemConfig
admitted_file = record { most = asked_of_a_file; Refusal = AdmittedRefusal; Form = IsAdmittedSystemFile }

-- ---- the demands

-- the bytes of a file are the text of these demands
abbrev pub AreDemands : List ℕ → List Demand → Type 0
AreDemands bytes demands = (length bytes < asked_of_a_file) × (demands_of bytes ≡ Ok demands)

-- the bytes of a file are no text of demands, for the fault that these words tell
pub record AreNoDemands (bytes words : List ℕ) : Type 0 where
  pub within : length bytes < asked_of_a_file
  pub fault : DemandsFault
  pub first : demands_of bytes ≡ Err fault
  pub told : words ≡ demands_fault_text fault

-- a file of demands of these bytes is refused by these words: it is too large, or no text of demands
abbrev pub DemandsRefusal : List ℕ → List ℕ → Type 0
DemandsRefusal bytes words = RefusesOversize bytes words ⊎ AreNoDemands bytes words

-- a file of demands
abbrev pub demands_file : FileKind (List Demand)
demands_file = record { most = asked_of_a_file; Refusal = DemandsRefusal; Form = AreDemands }

-- ---- the plan

-- the plan that meets the demands is told
pub record TellsPlan (system : SystemConfig) (demands : List Demand) (reply : Reply) : Type 0 where
  pub planned : Planned
  pub is : IsPlan system demands planned
  pub told : reply ≡ record { status = Good; text = plan_text planned (pool_pages system) }

-- the first demand that isn't met is told, and why; the file of the demands has this name
pub record TellsUnmet (name : List ℕ) (system : SystemConfig) (demands : List Demand) (reply : Reply) : Type 0 where
  pub number : ℕ
  pub why : Why
  pub first : IsFirstUnmet system demands number why
  pub told : reply ≡ record { status = Refused; text = refusal_line name (plan_fault_text (AtDemand number why)) }

-- the reply to demands beside the system
abbrev pub IsPlanned : List ℕ → SystemConfig → List Demand → Reply → Type 0
IsPlanned name system demands reply = TellsPlan system demands reply ⊎ TellsUnmet name system demands reply

-- what a plan beside the system ends with
abbrev pub PlansBy : Contents → List ℕ → SystemConfig → Reply → Type 0
PlansBy contents demands system = Reads contents demands demands_file (IsPlanned demands system)

-- what a plan ends with: the system's file is read, then the demands', and the first that stops the call ends it
abbrev pub Plans : Contents → List ℕ → List ℕ → Reply → Type 0
Plans contents system demands = Reads contents system admitted_file (PlansBy contents demands)
