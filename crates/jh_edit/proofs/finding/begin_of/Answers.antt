-- A slot begins below the end of addresses.
use Rattle.std.proofs.Common.{subst, arith}
use Rattle.jh_edit.specs.Private.Finding.{IsBegun}
use Rattle.jh_edit.proofs.FindingLemmas.{starts}
use Rattle.jh_edit.proofs.finding.begin_of.Goals as goal

pub overflow_mul-result : goal.overflow_mul-result
overflow_mul-result c =
    let is = subst IsBegun c.in-Make.is c.requires in
    let small = (starts c.in-Make.node c.in-Make.slot c.slot_size.result is.0 is.1 c.slot_size.ensures).product in omega arith

pub overflow_add-result : goal.overflow_add-result
overflow_add-result c =
    let is = subst IsBegun c.in-Make.is c.requires in
    let small = (starts c.in-Make.node c.in-Make.slot c.slot_size.result is.0 is.1 c.slot_size.ensures).sum in omega arith
