-- The words for a cause.
use Rattle.std.specs.Prelude.{ℕ, List, ◌++◌, length, codes, decimal}
use Rattle.jh_cellcfg.specs.Texts.{config_fault_text}
use Rattle.jh_script.specs.FaultText.{program_fault_text}
use Rattle.jh_image.specs.declared.fault.ImageCause.{ImageCause}
use Rattle.jh_image.specs.declared.fault.ImageCause.TheVariants.{ReadFault, Oversize, Json, Member, System, Findings, PoolSmall, Preload, Program}

-- the words for a member at fault
abbrev pub member_text : List ℕ → List ℕ
member_text name = codes "member " ++ name

-- the words for a cause
abbrev pub cause_text : ImageCause → List ℕ
cause_text ReadFault = codes "read fault"
cause_text Oversize = codes "oversize"
cause_text Json = codes "json"
cause_text (Member name) = member_text name
cause_text (System fault) = config_fault_text fault
cause_text (Findings found) = codes "findings " ++ decimal (length found)
cause_text (PoolSmall need have) = codes "pool " ++ (decimal need ++ (codes " " ++ decimal have))
cause_text (Preload number) = codes "preload " ++ decimal number
cause_text (Program fault) = program_fault_text fault
