-- What an object tells by the kind that was found.
use Rattle.std.proofs.Common.{◌≡◌, Option, Some, Result, Ok}
use Rattle.serde_json.specs.Data.{Data}
use Rattle.jh_spec.specs.declared.fault.JsonFault.{JsonFault}
use Rattle.jh_spec.specs.declared.spec.Spec.{Spec}
use Rattle.jh_spec.specs.declared.spec.Spec.TheVariants.{Cell as CellSpec, System as SystemSpec}
use Rattle.jh_spec.specs.declared.spec.Kind.{Kind}
use Rattle.jh_spec.specs.declared.spec.Kind.TheVariants.{Cell, System}
use Rattle.jh_spec.specs.Cells.{cell_told, system_told}
use Rattle.jh_spec.specs.Faults.{◌>>=◌}
use Rattle.jh_spec.specs.Private.Faults.{IsAsWanted}
use Rattle.jh_spec.specs.Specs.{names_with_kind, told_by}

pub cell_by : (kind : Option Kind) (d : Data) (r : Result Spec JsonFault) → Some Cell ≡ kind → IsAsWanted (cell_told names_with_kind d >>= λ config. Ok (CellSpec config)) r → IsAsWanted (told_by kind d) r
cell_by kind d r is h = rw (← is) h

pub system_by : (kind : Option Kind) (d : Data) (r : Result Spec JsonFault) → Some System ≡ kind → IsAsWanted (system_told d >>= λ config. Ok (SystemSpec config)) r → IsAsWanted (told_by kind d) r
system_by kind d r is h = rw (← is) h
