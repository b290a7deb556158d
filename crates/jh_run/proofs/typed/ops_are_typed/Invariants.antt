-- Those so far are as their type has them.
use Rattle.std.specs.List.{AllWithin}
use Rattle.jh_run.specs.Private.Typed.{IsTypedOp}
use Rattle.jh_run.proofs.typed.ops_are_typed.Given as goal

abbrev pub invariant-loop-op : goal.invariant-loop-op
invariant-loop-op l = AllWithin IsTypedOp l.ops 0 l.op-index
