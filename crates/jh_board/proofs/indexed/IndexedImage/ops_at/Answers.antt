-- The programs of an admitted image are plain.
use Rattle.std.proofs.Common.{List, sym, subst}
use Rattle.std.specs.Prelude.{All}
use Rattle.jh_script.specs.declared.op.Op.{Op}
use Rattle.jh_script.specs.Operations.{IsWellFormed}
use Rattle.jh_board.proofs.IndexLemmas.{well_formed_at}
use Rattle.jh_board.proofs.indexed.IndexedImage.ops_at.Goals as goal

pub returns-in-Some-clause-well_formed : goal.returns-in-Some-clause-well_formed
returns-in-Some-clause-well_formed c =
    let P : List Op → Type 0 = All IsWellFormed in
    subst P (sym c.as_slice.ensures.value) (well_formed_at c.self.inside.image c.args.index c.in-Some.program.now c.self.invariant.admitted (sym c.in-Some.ensures))
