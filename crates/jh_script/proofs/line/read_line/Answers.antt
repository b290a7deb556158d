-- An operation beyond its limits is told as a fault, so that one that is told is within them.
use Rattle.std.proofs.Common.{◌≡◌, rules, sym, subst}
use Rattle.jh_script.specs.Operations.{line_of_op, op_of}
use Rattle.jh_script.specs.Private.Lines.{IsWellFormedLine}
use Rattle.jh_script.specs.Words.{words, line_gaps}
use Rattle.jh_script.proofs.OperationLemmas.{op_line_well_formed}
use Rattle.jh_script.proofs.line.read_line.Goals as goal

pub returns-clause-well_formed : goal.returns-clause-well_formed
returns-clause-well_formed c =
    let is : c.operation.result ≡ line_of_op (op_of c.in-Some.name.now (words line_gaps c.in-Some.behind.now)) = search rules in
    subst IsWellFormedLine (sym is) (op_line_well_formed (op_of c.in-Some.name.now (words line_gaps c.in-Some.behind.now)))
