-- The words of the devices so far are held.
use Rattle.std.proofs.Common.{◌≡◌}
use Rattle.std.specs.Prelude.{All}
use Rattle.jh_history.specs.declared.place.Place.{Place}
use Rattle.jh_board.specs.Pages.{KeepsTables, byte_of, HoldsPlace, HoldsWordOf}
use Rattle.jh_board.proofs.DevicesLemmas.{specs_before}
use Rattle.jh_board.proofs.devices.prepare_devices.Given as goal

abbrev pub invariant-loop-number : goal.invariant-loop-number
invariant-loop-number l = record {
  bytes : (q : Place) → byte_of l.memory q ≡ byte_of l.fn.memory q;
  held : All (HoldsWordOf l.memory) (specs_before l.config l.number);
  others : (q : Place) → HoldsPlace l.fn.memory q → HoldsPlace l.memory q;
  tables : KeepsTables l.fn.memory l.memory;
}
