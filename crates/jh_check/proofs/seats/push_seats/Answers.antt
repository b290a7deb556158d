-- The new seat is that of the turn's device, and those in the list stay.
use Rattle.std.proofs.Common.{◌++◌, [], ◌∷◌, get_or, inl, inr, sym, subst, arith}
use Rattle.std.specs.List.{Contains}
use Rattle.std.proofs.lemmas.Bool.{cases_eq}
use Rattle.std.proofs.lemmas.List.{get_or_default}
use Rattle.std.proofs.lemmas.List.Elements.{Contains-push, Contains-append_left}
use Rattle.jh_cellcfg.specs.declared.config.PciDevice.{PciDevice}
use Rattle.jh_check.specs.Private.Seats.{seat_of}
use Rattle.jh_check.proofs.DeviceLemmas.{no_device}
use Rattle.jh_check.proofs.seats.push_seats.Goals as goal

pub loop-item-preserved : goal.loop-item-preserved
loop-item-preserved c =
    let cell = c.args.cell in
    let devices = c.args.devices.now in
    let seats = c.loop-item.seats.items in
    let i = c.loop-item.item in
    let x = seat_of cell i (get_or devices i no_device) in
    rw c.in_ok-push.ensures.items (
    record {
      kept = λ y cy. Contains-append_left seats (x ∷ []) y (c.loop-item.invariant.kept y cy);
      each = λ n d h. elim (cases_eq n i) [
        | inl e ↦
            let P : PciDevice → Type 0 = λ y. Contains (seats ++ x ∷ []) (seat_of cell i y) in
            let here : P (get_or devices i d) = subst P (get_or_default devices i no_device d c.loop-item-test.true) (Contains-push seats x) in
            subst (λ j. Contains (seats ++ x ∷ []) (seat_of cell j (get_or devices j d))) (sym e) here
        | inr m ↦ Contains-append_left seats (x ∷ []) (seat_of cell n (get_or devices n d)) (c.loop-item.invariant.each n d (omega arith))
      ];
    })

pub returns-clause-each : goal.returns-clause-each
returns-clause-each c = λ n d h. let t = c.loop-item-test.false in c.loop-item.invariant.each n d (omega arith)
