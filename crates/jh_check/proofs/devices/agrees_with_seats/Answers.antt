-- The seat just looked at agrees by its own test, the earlier ones as before.
use Rattle.std.proofs.Common.{get_or, inl, inr, sym, subst, arith}
use Rattle.std.proofs.lemmas.Bool.{cases_eq}
use Rattle.std.proofs.lemmas.List.{get_or_default}
use Rattle.jh_check.specs.declared.seats.Seat.{Seat}
use Rattle.jh_check.specs.Private.Cells.{cells_of}
use Rattle.jh_check.specs.Private.Seats.{AgreesAt}
use Rattle.jh_check.proofs.devices.agrees_with_seats.Goals as goal

pub loop-seat-preserved : goal.loop-seat-preserved
loop-seat-preserved c =
    let seats = c.args.seats.now in
    let i = c.loop-seat.seat-index in
    let none : Seat = record { bdf = 0; id = 0; cell = 0; item = 0 } in
    let P : Seat → Type 0 = λ s. AgreesAt (cells_of c.args.setup.now) c.args.number c.args.regions.now c.args.device.now s in
    λ k d h. elim (cases_eq k i) [
      | inl e ↦
          let here : P (get_or seats i none) = c.agrees_with_seat.ensures c.if-not-agrees_with_seat.false in
          subst (λ j. P (get_or seats j d)) (sym e) (subst P (get_or_default seats i none d c.loop-seat-test.true) here)
      | inr n ↦ c.loop-seat.invariant k d (omega arith)
    ]

pub returns : goal.returns
returns c = λ t seat cs.
    let within = cs.1 in
    let f = c.loop-seat-test.false in
    let P : Seat → Type 0 = λ s. AgreesAt (cells_of c.args.setup.now) c.args.number c.args.regions.now c.args.device.now s in
    subst P cs.2 (c.loop-seat.invariant cs.0 seat (omega arith))
