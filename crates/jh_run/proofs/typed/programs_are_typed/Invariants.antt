-- Those so far are as their type has them.
use Rattle.std.specs.Prelude.{All}
use Rattle.std.specs.List.{AllWithin}
use Rattle.jh_script.specs.declared.image.Program.{Program}
use Rattle.jh_run.specs.Private.Typed.{IsTypedOp}
use Rattle.jh_run.proofs.typed.programs_are_typed.Given as goal

abbrev pub invariant-loop-program : goal.invariant-loop-program
invariant-loop-program l = AllWithin (λ (p : Program). All IsTypedOp p.ops) l.programs 0 l.program-index
