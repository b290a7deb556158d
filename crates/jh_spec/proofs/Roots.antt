-- A cell told as root.
use Rattle.std.proofs.Common.{◌≡◌, Option, Some, Result, Ok, Err, ap}
use Rattle.std.specs.Prelude.{codes}
use Rattle.serde_json.specs.Data.{Data}
use Rattle.jh_cellcfg.specs.declared.config.CellConfig.{CellConfig}
use Rattle.jh_spec.specs.declared.fault.JsonFault.{JsonFault}
use Rattle.jh_spec.specs.declared.fault.JsonFault.TheVariants.{Json, Member, NoMemory}
use Rattle.jh_spec.specs.Cells.{cell_told, cell_names, root_of, root_in}
use Rattle.jh_spec.specs.Private.Cells.{IsFaultInRoot}
use Rattle.jh_spec.specs.Private.Faults.{IsAsWanted}
use Rattle.jh_spec.proofs.Steps.{at_fault, no_memory}

root_of_ok : (w : Result CellConfig JsonFault) (config : CellConfig) → IsAsWanted w (Ok config) → IsAsWanted (root_of w) (Ok config)
root_of_ok w config is = record { answer = ap root_of is.answer }

root_of_err : (w : Result CellConfig JsonFault) (fault found : JsonFault) → IsFaultInRoot fault found → IsAsWanted w (Err fault) → IsAsWanted (root_of w) (Err found)
root_of_err w NoMemory found named is = no_memory (root_of w) found named
root_of_err w Json found named is = at_fault (root_of w) (codes "root") found (ap root_of is.answer) named
root_of_err w (Member name) found named is = at_fault (root_of w) (codes "root") found (ap root_of is.answer) named

pub root_ok : (o : Option Data) (root : Data) (config : CellConfig) → Some root ≡ o → IsAsWanted (cell_told cell_names root) (Ok config) → IsAsWanted (root_in o) (Ok config)
root_ok o root config is told = rw (← is) (root_of_ok (cell_told cell_names root) config told)

pub root_err : (o : Option Data) (root : Data) (fault found : JsonFault) → Some root ≡ o → IsFaultInRoot fault found → IsAsWanted (cell_told cell_names root) (Err fault) → IsAsWanted (root_in o) (Err found)
root_err o root fault found is named told = rw (← is) (root_of_err (cell_told cell_names root) fault found named told)
