-- A cell's seats join those of earlier cells, and the sort by bdf loses none.
use Rattle.std.proofs.Common.{◌<◌, length, get_or, inl, inr, sym, subst, arith, rules}
use Rattle.std.proofs.lemmas.Bool.{cases_eq}
use Rattle.std.proofs.lemmas.List.{get_or_default}
use Rattle.std.proofs.lemmas.List.Sorted.{Contains-permutation, IsNonDecreasingBy-from_sort_by_key}
use Rattle.jh_cellcfg.specs.declared.config.CellConfig.{CellConfig}
use Rattle.jh_check.specs.declared.seats.Seat.{Seat}
use Rattle.jh_check.specs.Private.Cells.{cells_of}
use Rattle.jh_check.specs.Private.Seats.{seat_of, HasSeatsOf}
use Rattle.jh_check.proofs.seats.seats_of.Goals as goal

pub loop-c-preserved : goal.loop-c-preserved
loop-c-preserved c =
    let all = cells_of c.args.setup.now in
    let b = c.loop-c.c in
    let seats = c.push_seats.new.seats.items in
    let v = c.cell.ensures in
    let within : b < length all = omega arith in
    let cell = c.cell.result.now in
    let here : HasSeatsOf b cell.pci_devices seats = subst (λ devices. HasSeatsOf b devices seats) c.as_slice.ensures.value c.in_ok-push_seats.ensures.each in
    λ k d h. elim (cases_eq k b) [
      | inl e ↦
          let P : CellConfig → Type 0 = λ (x : CellConfig). HasSeatsOf b x.pci_devices seats in
          let there : P (get_or all b d) = subst P (get_or_default all b cell d within) (subst P v here) in
          subst (λ j. HasSeatsOf j (get_or all j d).pci_devices seats) (sym e) there
      | inr n ↦ λ item x i. c.in_ok-push_seats.ensures.kept (seat_of k item (get_or (get_or all k d).pci_devices item x)) (c.loop-c.invariant k d (omega arith) item x i)
    ]

pub returns-clause-each : goal.returns-clause-each
returns-clause-each c = λ k d h item x i. Contains-permutation _ _ _ c.sort_unstable_by_key.ensures.permutation (c.loop-c.invariant k d (omega arith) item x i)

pub returns-clause-order : goal.returns-clause-order
returns-clause-order c = IsNonDecreasingBy-from_sort_by_key (λ (seat : Seat). seat.bdf) _ c.sort_unstable_by_key.ensures.sorted (λ a r q k. search rules)
