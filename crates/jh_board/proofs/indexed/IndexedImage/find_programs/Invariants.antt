-- The programs so far are found.
use Rattle.std.proofs.Common.{◌≡◌, ℕ, ◌<◌, get_or, length}
use Rattle.jh_history.specs.Lives.{ops_in}
use Rattle.jh_board.specs.declared.indexed.ProgramIndex.{ProgramIndex}
use Rattle.jh_board.specs.Indexed.{ops_at}
use Rattle.jh_board.proofs.indexed.IndexedImage.find_programs.Given as goal

abbrev pub invariant-loop-cpu : goal.invariant-loop-cpu
invariant-loop-cpu l = record {
  all : length l.found ≡ 16;
  told : (k : ℕ) (d : ProgramIndex) → k < l.cpu → ops_at l.self (get_or l.found k d).index ≡ ops_in l.self l.cells.lives (get_or l.found k d).owner k;
}
