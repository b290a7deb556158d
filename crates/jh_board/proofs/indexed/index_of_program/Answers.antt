-- What is left begins with the program, or is empty.
use Rattle.std.proofs.Common.{◌≡◌, ℕ, length, drop, sym, subst, arith}
use Rattle.std.specs.Prelude.{find}
use Rattle.jh_history.specs.Lives.{is_program_of}
use Rattle.jh_board.proofs.IndexLemmas.{find_here, find_nowhere}
use Rattle.jh_board.proofs.indexed.index_of_program.Goals as goal

pub returns-then-is_program_of : goal.returns-then-is_program_of
returns-then-is_program_of c =
    find_here (is_program_of c.args.name.now c.args.cpu) c.args.programs.now c.loop-k.k c.index-programs-k.result c.loop-k-test.true c.index-programs-k.is (sym c.if-is_program_of.ensures) c.loop-k.invariant

pub returns : goal.returns
returns c =
    let all : c.loop-k.k ≡ length c.args.programs.now = omega arith in
    let P : ℕ → Type 0 = λ k. find (is_program_of c.args.name.now c.args.cpu) (drop k c.args.programs.now) ≡ find (is_program_of c.args.name.now c.args.cpu) c.args.programs.now in
    find_nowhere (is_program_of c.args.name.now c.args.cpu) c.args.programs.now (subst P all c.loop-k.invariant)
