-- The digits that are left have places before those written, and two bytes are spared.
use Rattle.std.proofs.Common.{◌≡◌, ◌+◌, ◌-◌, ◌^◌, ◌<◌, ◌≤◌, false, drop}
use Rattle.std.specs.Fmt.{digits, digits_onto}
use Rattle.jh_text.specs.declared.number_text.TheConstants.{ROOM}
use Rattle.jh_text.proofs.number_text.write_digits.Given as goal

abbrev pub invariant-loop-left : goal.invariant-loop-left
invariant-loop-left l = record {
  before : 2 ≤ l.start;
  within : l.start < ROOM;
  fits : l.left < l.base ^ (l.start - 1);
  written : digits_onto (l.start + 43) l.base false l.left (drop (l.start + 1) l.room) ≡ digits l.base false l.n;
}

abbrev pub decreases-loop-left : goal.decreases-loop-left
decreases-loop-left l = l.left
