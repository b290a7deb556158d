-- What contracts see of the seats of cells: which page of the hypervisor's memory is whose communication page.
use Rattle.std.specs.Prelude.{◌≡◌, ℕ, ◌+◌, ◌≤◌, Bool, not, nat_eq, length, List, map, Option, IsSome}
use Rattle.jh_num.specs.declared.address.TheConstants.{ADDRESS_END}
use Rattle.jh_frames.specs.Memory.{OwnView}
use Rattle.jh_edit.specs.declared.stage.Seat.{Seat}
use Rattle.jh_edit.specs.declared.stage.Stage2.{Stage2}
use Rattle.jh_edit.specs.Forest.{HasSeat, is_root}
use Rattle.jh_edit.specs.Seats.{cell_comm, is_seat_of}

-- the page of 4,096 bytes that begins at the place lies in the hypervisor's memory, and below the end of addresses
pub record IsOwnPage (own : OwnView) (page : ℕ) : Type 0 where
  pub above : own.base ≤ page
  pub below : page + 4096 ≤ own.base + length own.bytes
  pub within : page + 4096 ≤ ADDRESS_END

-- the seat is that of another cell
abbrev pub is_other_seat : ℕ → Seat → Bool
is_other_seat id seat = not (is_seat_of id seat)

-- where the communication page of the cell with the id begins
abbrev pub comm_of : Stage2 → ℕ → Option ℕ
comm_of stage id = cell_comm id stage.seats.items

-- the cell with the id has a communication page
abbrev pub IsSeated : Stage2 → ℕ → Type 0
IsSeated stage id = IsSome (comm_of stage id)

-- of all seats that of the cell with the id alone has no communication page: it is root
abbrev pub AreCellSeats : ℕ → Stage2 → Type 0
AreCellSeats root stage = (seat : Seat) → HasSeat stage seat → is_root seat ≡ nat_eq seat.id root

-- the ids of the cells that have a seat, in order
abbrev pub ids_of : Stage2 → List ℕ
ids_of stage = map (λ (seat : Seat). seat.id) stage.seats.items
