-- A name that is none of the six is no operation, but a fault of syntax.
use Rattle.std.proofs.Common.{rules}
use Rattle.jh_script.specs.Operations.{line_of_op, op_of}
use Rattle.jh_script.proofs.line.operation.Goals as goal

pub returns : goal.returns
unfolding op_of line_of_op
returns c = search rules
