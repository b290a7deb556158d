-- The device of each seat so far agrees with the one, if it is of a lower cell.
use Rattle.std.proofs.Common.{ℕ, ◌<◌, get_or}
use Rattle.jh_check.specs.declared.seats.Seat.{Seat}
use Rattle.jh_check.specs.Private.Cells.{cells_of}
use Rattle.jh_check.specs.Private.Seats.{AgreesAt}
use Rattle.jh_check.proofs.devices.agrees_with_seats.Given as goal

abbrev pub invariant-loop-seat : goal.invariant-loop-seat
invariant-loop-seat l =
    (k : ℕ) (d : Seat) → k < l.seat-index → AgreesAt (cells_of l.setup) l.number l.regions l.device (get_or l.seats k d)
