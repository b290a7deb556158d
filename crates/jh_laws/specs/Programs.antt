-- What a CPU makes in the name of one cell, over a whole journal.
use Rattle.std.specs.Prelude.{ℕ, ◌==◌, List, [], ◌∷◌, Option, Some, None, if◌then◌else◌}
use Rattle.jh_script.specs.declared.op.Op.{Op}
use Rattle.jh_history.specs.declared.entry.Entry.{Entry}
use Rattle.jh_laws.specs.Operations.{op_by}

-- the operation of the entry, where the CPU made it in the name of the cell with the id
abbrev pub op_in : ℕ → ℕ → Entry → Option Op
op_in id cpu entry = if entry.cell == id then op_by cpu entry else None

-- the operation, if there is one, before these
abbrev pub with_op : Option Op → List Op → List Op
with_op None ops = ops
with_op (Some op) ops = op ∷ ops

-- the operations that the CPU made in the name of the cell with the id, in order
abbrev pub operations_in : ℕ → ℕ → List Entry → List Op
operations_in id cpu [] = []
operations_in id cpu (entry ∷ entries) = with_op (op_in id cpu entry) (operations_in id cpu entries)
