-- The runs of the pins in common.
use Rattle.std.proofs.Common.{◌≡◌, List, map, ap}
use Rattle.jh_pins.specs.declared.pin.PinRun.{PinRun}
use Rattle.jh_pins.specs.Clashes.{clash_of}
use Rattle.jh_pins.specs.Private.Pieces.{names}
use Rattle.jh_pins.proofs.clashes.push_clashes_of.Goals as goal

pub returns : goal.returns
returns c =
    let one = c.args.one.now in
    let other = c.args.other.now in
    let runs = c.as_slice.result.now in
    let items : runs ≡ c.in_ok-runs.runs.items = c.as_slice.ensures.value in (
      map (clash_of one other) runs,
      (c.in_ok-runs.runs.items, c.in_ok-runs.ensures (names one) (names other) c.runs.ensures c.runs-2.ensures, ap (λ (l : List PinRun). map (clash_of one other) l) items),
      c.in_ok-push_each.ensures,
    )
