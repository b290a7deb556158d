-- The indices so far.
use Rattle.std.proofs.Common.{◌≡◌, ℕ, ◌<◌, get_or, length}
use Rattle.std.specs.Prelude.{find, slice_get}
use Rattle.jh_cellcfg.specs.Cells.{name_of}
use Rattle.jh_history.specs.Lives.{is_program_of}
use Rattle.jh_board.proofs.indexed.root_programs.Given as goal

abbrev pub invariant-loop-cpu : goal.invariant-loop-cpu
invariant-loop-cpu l = record {
  all : length l.indices ≡ 16;
  told : (k : ℕ) → k < l.cpu → find (is_program_of (name_of l.image.system.root) k) l.image.programs ≡ slice_get l.image.programs (get_or l.indices k 0);
}
