-- What the bytes of a SPEC tell.
use Rattle.std.specs.Prelude.{ℕ, nat_eq, List, codes, ◌∷◌, Option, Some, None, Result, Ok, Err, option_and_then, if◌then◌else◌, is_some}
use Rattle.std.specs.Cmp.Lexicographic.{pointwise}
use Rattle.serde_json.specs.Data.{Data}
use Rattle.serde_json.specs.Find.{as_str, as_object}
use Rattle.jh_cellcfg.specs.Limits.{IsWithinLimits}
use Rattle.jh_syscfg.specs.Layout.{IsSystemWithinLimits}
use Rattle.jh_spec.specs.declared.fault.JsonFault.{JsonFault}
use Rattle.jh_spec.specs.declared.fault.JsonFault.TheVariants.{Json, Member}
use Rattle.jh_spec.specs.declared.spec.Spec.{Spec}
use Rattle.jh_spec.specs.declared.spec.Spec.TheVariants.{Cell as CellSpec, System as SystemSpec}
use Rattle.jh_spec.specs.declared.spec.Kind.{Kind}
use Rattle.jh_spec.specs.declared.spec.Kind.TheVariants.{Cell, System}
use Rattle.jh_spec.specs.Faults.{◌>>=◌, IsJsonAnswer}
use Rattle.jh_spec.specs.Json.{told_at}
use Rattle.jh_spec.specs.Cells.{cell_names, cell_told, system_told}

-- the kind that the text names
abbrev pub kind_named : List ℕ → Option Kind
kind_named text =
    if pointwise nat_eq text (codes "cell") then Some Cell
    else (if pointwise nat_eq text (codes "system") then Some System
    else None)

-- the kind that the member `kind` tells, which must be there
abbrev pub kind_told : Data → Option Kind
kind_told d = option_and_then kind_named (told_at as_str (codes "kind") d)

-- the names of a cell's members, with that of its kind
abbrev pub names_with_kind : List (List ℕ)
names_with_kind = codes "kind" ∷ cell_names

-- what an object tells, where it is of this kind
abbrev pub told_by : Option Kind → Data → Result Spec JsonFault
told_by (Some Cell) d = cell_told names_with_kind d >>= λ config. Ok (CellSpec config)
told_by (Some System) d = system_told d >>= λ config. Ok (SystemSpec config)
told_by None d = Err (Member (codes "kind"))

-- what an object tells, by its kind
abbrev pub object_told : Data → Result Spec JsonFault
object_told d = told_by (kind_told d) d

-- what a value tells, which must be an object
abbrev pub spec_told : Data → Result Spec JsonFault
spec_told d = if is_some (as_object d) then object_told d else Err Json

-- what is answered to these bytes: what their value tells, or that they are no object's text
abbrev pub IsSpecAnswer : List ℕ → Result Spec JsonFault → Type 0
IsSpecAnswer bytes result = IsJsonAnswer spec_told bytes result

-- the configuration may be written
abbrev pub MayBeWritten : Spec → Type 0
MayBeWritten (CellSpec config) = IsWithinLimits config
MayBeWritten (SystemSpec config) = IsSystemWithinLimits config
