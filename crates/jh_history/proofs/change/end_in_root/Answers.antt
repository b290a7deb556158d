-- A program has few operations.
use Rattle.std.proofs.Common.{◌≤◌, length, arith}
use Rattle.jh_history.proofs.AdmittedLemmas.{few_operations}
use Rattle.jh_history.proofs.change.end_in_root.Goals as goal

pub overflow_cast-result : goal.overflow_cast-result
overflow_cast-result c =
    let few : length c.program_ops.result.now ≤ 4096 = rw c.program_ops.ensures (few_operations c.args.image.now c.name.result.now c.args.i c.requires) in
    omega arith
