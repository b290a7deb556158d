-- What is left to write over the bytes as they stand gives all that is to be written, and all places are held.
use Rattle.std.proofs.Common.{◌≡◌, ◌-◌, ◌++◌, List}
use Rattle.jh_history.specs.declared.place.Place.{Place}
use Rattle.jh_history.specs.Places.{further, places_in_row, overlaid}
use Rattle.jh_board.specs.Pages.{KeepsTables, byte_of, HoldsPlace}
use Rattle.jh_board.proofs.memory.Memory.write_row.Given as goal

abbrev pub invariant-loop-k : goal.invariant-loop-k
invariant-loop-k l = record {
  bytes : (places : List Place) (q : Place)
      → overlaid (places_in_row (further l.row.first l.k) (l.row.count - l.k) ++ places) l.rest q (byte_of l.self q) ≡ overlaid (places_in_row l.row.first l.row.count ++ places) l.value q (byte_of l.fn.self q);
  held : (q : Place) → HoldsPlace l.fn.self q → HoldsPlace l.self q;
  tables : KeepsTables l.fn.self l.self;
}
