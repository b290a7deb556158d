-- The programs so far are root's.
use Rattle.std.proofs.Common.{◌≡◌, ℕ, ◌<◌, get_or, length}
use Rattle.jh_board.specs.declared.indexed.ProgramIndex.{ProgramIndex}
use Rattle.jh_board.proofs.indexed.opening_programs.Given as goal

abbrev pub invariant-loop-cpu : goal.invariant-loop-cpu
invariant-loop-cpu l = record {
  all : length l.found ≡ 16;
  owner : (k : ℕ) (d : ProgramIndex) → k < l.cpu → (get_or l.found k d).owner ≡ l.owner;
  index : (k : ℕ) (d : ProgramIndex) → k < l.cpu → (get_or l.found k d).index ≡ get_or l.indices k 0;
}
