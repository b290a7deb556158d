-- The seats from before are still there, and each device so far has its own.
use Rattle.std.proofs.Common.{ℕ, ◌<◌, get_or}
use Rattle.std.specs.List.{Contains}
use Rattle.jh_cellcfg.specs.declared.config.PciDevice.{PciDevice}
use Rattle.jh_check.specs.declared.seats.Seat.{Seat}
use Rattle.jh_check.specs.Private.Seats.{seat_of}
use Rattle.jh_check.proofs.seats.push_seats.Given as goal

abbrev pub invariant-loop-item : goal.invariant-loop-item
invariant-loop-item l = record {
  kept : (x : Seat) → Contains l.initial.seats.items x → Contains l.seats.items x;
  each : (n : ℕ) (d : PciDevice) → n < l.item → Contains l.seats.items (seat_of l.cell n (get_or l.devices n d));
}
