-- The preloads so far are stored, no cell has a communication page, and the tables of root stand.
use Rattle.std.proofs.Common.{◌≡◌, ℕ, [], take}
use Rattle.std.specs.Prelude.{fold}
use Rattle.jh_history.specs.Bytes.{preloaded}
use Rattle.jh_history.specs.declared.place.Place.TheVariants.{Physical, Page}
use Rattle.jh_board.specs.Means.{IsStageOf}
use Rattle.jh_board.specs.Pages.{byte_of}
use Rattle.jh_board.proofs.board.load.Given as goal

abbrev pub invariant-loop-preload : goal.invariant-loop-preload
invariant-loop-preload l = record {
  bytes : (q : ℕ) → byte_of l.memory (Physical q) ≡ fold preloaded (λ _. 0) (take l.preload-index l.preload-items) q;
  comms : (cell offset : ℕ) → byte_of l.memory (Page cell offset) ≡ 0;
  stage : IsStageOf l.image [] l.memory;
}
