-- The devices so far are changed.
use Rattle.std.proofs.Common.{◌≡◌, ◌+◌, ◌≤◌, length}
use Rattle.jh_history.specs.declared.place.Place.{Place}
use Rattle.jh_history.specs.Endpoints.{endpoints_changed, with_words}
use Rattle.jh_board.specs.Pages.{KeepsTables, byte_of, HoldsPlace}
use Rattle.jh_board.proofs.DevicesLemmas.{specs_before}
use Rattle.jh_board.proofs.devices.change_devices.Given as goal

abbrev pub invariant-loop-number : goal.invariant-loop-number
invariant-loop-number l = record {
  bytes : (q : Place) → byte_of l.memory q ≡ with_words (specs_before l.config l.number) (byte_of l.fn.memory) q;
  list : l.endpoints.list ≡ endpoints_changed l.change (specs_before l.config l.number) l.fn.endpoints.list;
  spare : l.fn.endpoints.spare ≤ l.endpoints.spare + length (specs_before l.config l.number);
  held : (q : Place) → HoldsPlace l.fn.memory q → HoldsPlace l.memory q;
  tables : KeepsTables l.fn.memory l.memory;
}
