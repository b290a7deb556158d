-- Each of the 16 is found.
use Rattle.std.proofs.Common.{arith}
use Rattle.jh_board.proofs.IndexLemmas.{all_found}
use Rattle.jh_board.proofs.indexed.IndexedImage.find_programs.Goals as goal

pub returns : goal.returns
returns c = all_found c.args.self.now c.args.cells.now.lives c.loop-cpu.found c.loop-cpu.invariant.all (λ k d lt. c.loop-cpu.invariant.told k d (omega arith))
