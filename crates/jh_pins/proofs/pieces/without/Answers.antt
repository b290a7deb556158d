-- The other's next run is done with, or the run is; and all of them are.
use Rattle.std.proofs.Common.{◌<◌, List, length, None, sym, subst, arith}
use Rattle.jh_pins.specs.declared.pin.PinRun.{PinRun}
use Rattle.jh_pins.specs.Private.Pieces.{is_without}
use Rattle.jh_pins.proofs.PieceLemmas.{IsLeft, LeavesSoFar, all_came, none_left, other_next, reached_within, run_done}
use Rattle.jh_pins.proofs.pieces.without.Goals as goal

pub some_left-init : goal.some_left-init
some_left-init c = λ has other are others_are.
    let P : List PinRun → Type 0 = λ l. LeavesSoFar has other c.args.runs.now c.args.others.now 0 0 None l in
    subst P (sym c.in_ok-left.ensures.items) (none_left has other c.args.runs.now c.args.others.now are others_are)

pub overflow_add-j : goal.overflow_add-j
overflow_add-j c =
    let within : c.some_left.j < length c.args.others.now = reached_within c.args.others.now c.some_left.j c.run_at-next.result _ (sym c.run_at-next.ensures) c.if-is_reached.ensures in
    omega arith

pub some_left-smaller-then-is_reached : goal.some_left-smaller-then-is_reached
some_left-smaller-then-is_reached c =
    let within : c.some_left.j < length c.args.others.now = reached_within c.args.others.now c.some_left.j c.run_at-next.result _ (sym c.run_at-next.ensures) c.if-is_reached.ensures in
    omega arith

pub some_left-preserved-then-is_reached : goal.some_left-preserved-then-is_reached
some_left-preserved-then-is_reached c = λ has other are others_are.
    other_next has other c.args.runs.now c.args.others.now c.some_left.i c.some_left.j _ c.some_left.past c.run_at-next.result c.between.result c.some_left.left.items _ are others_are (omega arith)
    (sym c.run_at-next.ensures) c.if-is_reached.ensures c.between.ensures c.in_ok-push_piece.ensures (c.some_left.invariant has other are others_are)

pub some_left-preserved : goal.some_left-preserved
some_left-preserved c = λ has other are others_are.
    let so_far = c.some_left.invariant has other are others_are in (
      so_far.0,
      run_done has other c.args.runs.now c.args.others.now c.some_left.i c.some_left.j _ c.some_left.past c.run_at-next.result c.between.result c.some_left.left.items _ are others_are (omega arith)
          so_far.0 (sym c.run_at-next.ensures) c.if-is_reached.ensures c.between.ensures c.in_ok-push_piece.ensures so_far.1,
    )

pub returns : goal.returns
returns c = λ has other are others_are.
    all_came (is_without has other) (IsLeft c.args.runs.now c.some_left.i c.some_left.past) c.some_left.left.items (c.some_left.invariant has other are others_are).1
    (λ pin still.
    let a = still.0.from in
    let b = still.0.within in
    omega arith)
