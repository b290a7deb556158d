-- The numbers that calls are refused with are numbers of 64 bits.
use Rattle.std.proofs.Common.{◌≡◌, ℕ, ℤ, List, ◌∷◌, [], ◌++◌, Bool, eqb, Option, Some, None, is_some, refl, sym, subst, arith}
use Rattle.std.specs.Prelude.{FitsSigned, IfSome, nat_lt}
use Rattle.std.specs.Int.{w64}
use Rattle.std.specs.List.{list_any}
use Rattle.std.proofs.lemmas.Bool.{cond_both}
use Rattle.jh_num.specs.declared.error.TheConstants.{EPERM, ENOENT, E2BIG, ENOMEM, EBUSY, EEXIST, EINVAL}
use Rattle.jh_cellcfg.specs.declared.config.CellConfig.{CellConfig}
use Rattle.jh_cellcfg.specs.declared.config.SystemConfig.{SystemConfig}
use Rattle.jh_cellcfg.specs.declared.fault.ConfigFault.{ConfigFault}
use Rattle.jh_cellcfg.specs.declared.fault.ConfigFault.TheVariants.{Short, Signature, Revision, Name, Count, Trailing, NoMemory}
use Rattle.jh_cellcfg.specs.declared.fault.Part.{Part}
use Rattle.jh_cellcfg.specs.declared.fault.Part.TheVariants.{CpuSet, MemoryRegions, CacheRegions, Irqchips, PioRegions, PciDevices, PciCaps, StreamIds, Total}
use Rattle.jh_cellcfg.specs.Faults.{header_fault, size_by_header}
use Rattle.jh_check.specs.Refusals.{is_known, names_beyond, by_check, refusal_of}
use Rattle.jh_check.specs.declared.verdict.NewCell.{NewCell}
use Rattle.jh_check.specs.declared.verdict.NewCell.TheVariants.{Clean, Invalid, Busy}
use Rattle.jh_check.specs.Verdicts.{verdict_of}
use Rattle.jh_shape.specs.Pages.{pages_of}
use Rattle.jh_call.specs.declared.call.Call.{Call}
use Rattle.jh_call.specs.declared.call.Call.TheVariants.{Create, Start, Loadable, Destroy}
use Rattle.jh_script.specs.declared.image.Image.{Image}
use Rattle.jh_history.specs.declared.call.Creation.{Creation}
use Rattle.jh_history.specs.declared.call.Creation.TheVariants.{Refused, Accepted}
use Rattle.jh_history.specs.declared.call.Phase.{Phase}
use Rattle.jh_history.specs.declared.call.Phase.TheVariants.{ToDecide, ToSettle, ToNoted}
use Rattle.jh_history.specs.declared.entry.Entry.{Entry}
use Rattle.jh_history.specs.declared.entry.Act.{Act}
use Rattle.jh_history.specs.declared.entry.Act.TheVariants.{Decide}
use Rattle.jh_history.specs.Facts.{Facts}
use Rattle.jh_history.specs.Lives.{cell_of}
use Rattle.jh_history.specs.Admitted.{pool_pages}
use Rattle.jh_history.specs.declared.reading.ReadCell.{ReadCell}
use Rattle.jh_history.specs.declared.reading.ReadCell.TheVariants.{Reads, Refuses}
use Rattle.jh_history.specs.Configs.{bytes_at, refused_for, read_whole, read_behind, read_from, read_at}
use Rattle.jh_history.specs.Phases.{is_locked, is_other_locked, may_give, unless_refused, creation_by, creation_of, refused_by, id_refusal, first_refusal, decision}
use Rattle.jh_shape.specs.Lives.{configs_of}
use Rattle.jh_history.specs.Due.{due_at}
use Rattle.jh_history.specs.Sound.{IsSound}
use Rattle.jh_history.proofs.Public.{IsActIn, IsLater, later_open}

-- each is one of the error numbers
abbrev Fits : Option ℤ → Type 0
Fits refused = IfSome refused (FitsSigned w64)

permission_fits : FitsSigned w64 EPERM
permission_fits = record { sfits = omega arith }

missing_fits : FitsSigned w64 ENOENT
missing_fits = record { sfits = omega arith }

long_fits : FitsSigned w64 E2BIG
long_fits = record { sfits = omega arith }

memory_fits : FitsSigned w64 ENOMEM
memory_fits = record { sfits = omega arith }

busy_fits : FitsSigned w64 EBUSY
busy_fits = record { sfits = omega arith }

there_fits : FitsSigned w64 EEXIST
there_fits = record { sfits = omega arith }

invalid_fits : FitsSigned w64 EINVAL
invalid_fits = record { sfits = omega arith }

-- ---- what a create is refused for

abbrev FitsRead : ReadCell → Type 0
FitsRead (Reads config) = Unit {0}
FitsRead (Refuses number) = FitsSigned w64 number

count_fits : (part : Part) (found : ℕ) → FitsSigned w64 (refused_for (Count part found))
count_fits Total found = long_fits
count_fits CpuSet found = invalid_fits
count_fits MemoryRegions found = invalid_fits
count_fits CacheRegions found = invalid_fits
count_fits Irqchips found = invalid_fits
count_fits PioRegions found = invalid_fits
count_fits PciDevices found = invalid_fits
count_fits PciCaps found = invalid_fits
count_fits StreamIds found = invalid_fits

fault_fits : (fault : ConfigFault) → FitsSigned w64 (refused_for fault)
fault_fits (Count part found) = count_fits part found
fault_fits (Short need) = invalid_fits
fault_fits Signature = invalid_fits
fault_fits (Revision found) = invalid_fits
fault_fits Name = invalid_fits
fault_fits (Trailing extra) = invalid_fits
fault_fits NoMemory = invalid_fits

whole_fits : (o : Option (List ℕ)) → FitsRead (read_whole o)
whole_fits None = invalid_fits
whole_fits (Some bytes) = tt

behind_fits : (image : Image) (f : Facts) (at : ℕ) (header : List ℕ) (fault : Option ConfigFault) → FitsRead (read_behind (bytes_at image f at) header fault)
behind_fits image f at header None = whole_fits (bytes_at image f at (size_by_header header))
behind_fits image f at header (Some fault) = fault_fits fault

from_fits : (image : Image) (f : Facts) (at : ℕ) (o : Option (List ℕ)) → FitsRead (read_from (bytes_at image f at) o)
from_fits image f at None = invalid_fits
from_fits image f at (Some header) = behind_fits image f at header (header_fault header)

read_fits : (image : Image) (f : Facts) (at : ℕ) → FitsRead (read_at image f at)
unfolding read_at
read_fits image f at = from_fits image f at (bytes_at image f at 132)

check_fits : (verdict : NewCell) (rest : Option ℤ) → Fits rest → Fits (by_check verdict rest)
check_fits Invalid rest h = invalid_fits
check_fits Busy rest h = busy_fits
check_fits Clean rest h = h

cause_fits : (system : SystemConfig) (live : List CellConfig) (new : CellConfig) (may : ℕ → Bool) (pages pool : ℕ) → Fits (refusal_of system live new may pages pool)
unfolding refusal_of
cause_fits system live new may pages pool =
    cond_both (is_known (system.root ∷ live) new) _ _ Fits (λ _. there_fits)
    (λ _. cond_both (names_beyond may new.cpu_set) _ _ Fits (λ _. busy_fits)
    (λ _. check_fits (verdict_of system live new) _ (cond_both (nat_lt pool pages) (Some ENOMEM) None Fits (λ _. memory_fits) (λ _. tt))))

abbrev FitsCreation : Creation → Type 0
FitsCreation (Refused number) = FitsSigned w64 number
FitsCreation (Accepted config) = Unit {0}

unless_fits : (config : CellConfig) (o : Option ℤ) → Fits o → FitsCreation (unless_refused config o)
unless_fits config None h = tt
unless_fits config (Some number) h = h

creation_by_fits : (image : Image) (f : Facts) (caller : ℕ) (cell : ReadCell) → FitsRead cell → FitsCreation (creation_by image f caller cell)
creation_by_fits image f caller (Refuses number) h = h
creation_by_fits image f caller (Reads config) h =
    unless_fits config _
    (cause_fits image.system (configs_of f.cells) config (may_give image f caller) (pages_of image.system.root.memory_regions (configs_of f.cells ++ config ∷ [])) (pool_pages image.system))

creation_fits : (image : Image) (f : Facts) (caller at : ℕ) → FitsCreation (creation_of image f caller at)
unfolding creation_of
creation_fits image f caller at =
    cond_both (list_any (is_locked f) f.cells) _ _ FitsCreation (λ _. permission_fits) (λ _. creation_by_fits image f caller (read_at image f at) (read_fits image f at))

refused_fits : (creation : Creation) → FitsCreation creation → Fits (refused_by creation)
refused_fits (Refused number) h = h
refused_fits (Accepted config) h = tt

-- ---- what the other calls are

first_fits : (o : Option ℤ) (locked : Bool) → Fits o → Fits (first_refusal o locked)
first_fits (Some number) locked h = h
first_fits None locked h = cond_both locked (Some EPERM) None Fits (λ _. permission_fits) (λ _. tt)

id_fits : (image : Image) (f : Facts) (id : ℕ) → Fits (id_refusal image f id)
id_fits image f id =
    cond_both (is_some (cell_of image f id)) _ _ Fits
    (λ _. cond_both (eqb id image.system.root.id) (Some EINVAL) None Fits (λ _. invalid_fits) (λ _. tt))
    (λ _. missing_fits)

decision_fits : (image : Image) (f : Facts) (caller : ℕ) (call : Call) → Fits (decision image f caller call)
decision_fits image f caller (Create at) = refused_fits (creation_of image f caller at) (creation_fits image f caller at)
decision_fits image f caller (Start id) = id_fits image f id
decision_fits image f caller (Loadable id) = id_fits image f id
decision_fits image f caller (Destroy id) = first_fits (id_refusal image f id) (list_any (is_other_locked f id) f.cells) (id_fits image f id)
decision_fits image f caller _ = tt

-- ---- the entry

-- where the act refuses a call, it does so by a number of 64 bits
abbrev pub FitsRefusal : Act → Type 0
FitsRefusal (Decide refused) = IfSome refused (FitsSigned w64)
FitsRefusal _ = Unit {0}

in_phase : (image : Image) (f : Facts) (caller : ℕ) (call : Call) (phase : Phase) (act : Act) → IsActIn image f caller call phase act → FitsRefusal act
in_phase image f caller call ToDecide act is = subst FitsRefusal (sym is) (decision_fits image f caller call)
in_phase image f caller call (ToSettle waited) act is = subst FitsRefusal (sym is.1) tt
in_phase image f caller call (ToNoted id about answer waited) act is = subst FitsRefusal (sym is.1) tt
in_phase image f caller call _ act is = subst FitsRefusal (sym is) tt

by_act : (image : Image) (f : Facts) (entry : Entry) (act : Act) → entry.act ≡ act → IsSound image f → due_at image f entry.cpu ≡ Some entry → FitsRefusal entry.act
by_act image f entry (Decide refused) is sound due =
    let of = later_open image f entry sound due (subst (λ (a : Act). IsLater a) (sym is) tt) in
    in_phase image f of.call.caller of.call.call of.call.phase entry.act of.phase
by_act image f entry _ is sound due = subst FitsRefusal (sym is) tt

pub refusal_fits : (image : Image) (f : Facts) (entry : Entry) → IsSound image f → due_at image f entry.cpu ≡ Some entry → FitsRefusal entry.act
refusal_fits image f entry sound due = by_act image f entry entry.act refl sound due
