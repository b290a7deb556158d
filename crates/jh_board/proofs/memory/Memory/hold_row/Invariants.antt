-- The places so far are held, and no byte has changed.
use Rattle.std.proofs.Common.{◌≡◌, ℕ, ◌<◌}
use Rattle.jh_history.specs.declared.place.Place.{Place}
use Rattle.jh_history.specs.Places.{further}
use Rattle.jh_board.specs.Pages.{KeepsTables, byte_of, HoldsPlace}
use Rattle.jh_board.proofs.memory.Memory.hold_row.Given as goal

abbrev pub invariant-loop-k : goal.invariant-loop-k
invariant-loop-k l = record {
  bytes : (q : Place) → byte_of l.self q ≡ byte_of l.fn.self q;
  held : (j : ℕ) → j < l.k → HoldsPlace l.self (further l.row.first j);
  others : (q : Place) → HoldsPlace l.fn.self q → HoldsPlace l.self q;
  tables : KeepsTables l.fn.self l.self;
}
