-- The run that ends first is done with; in the other list it is the same with both swapped.
use Rattle.std.proofs.Common.{◌+◌, List, sym, subst, arith}
use Rattle.jh_pins.specs.declared.pin.PinRun.{PinRun}
use Rattle.jh_pins.specs.Private.Pieces.{is_common}
use Rattle.jh_pins.proofs.PieceLemmas.{InBoth, Comes, all_came, none_common, common_next, common_swapped, meeting_swapped}
use Rattle.jh_pins.proofs.pieces.common.Goals as goal
use Rattle.jh_pins.proofs.pieces.common.Goals.{then-both_left-test+else-j-others, else-both_left-test}

pub both_left-init : goal.both_left-init
both_left-init c = λ has other are others_are.
    let P : List PinRun → Type 0 = λ l. Comes (is_common has other) (InBoth c.args.runs.now c.args.others.now 0 0) l in
    subst P (sym c.new-met.ensures.items) (none_common has other c.args.runs.now c.args.others.now are others_are)

pub both_left-preserved-then-ends_by : goal.both_left-preserved-then-ends_by
both_left-preserved-then-ends_by c = λ has other are others_are.
    common_next has other c.args.runs.now c.args.others.now c.both_left.i c.both_left.j _ c.meeting.result c.both_left.met.items _ are others_are (omega arith) (omega arith)
    c.if-ends_by.ensures c.meeting.ensures c.in_ok-push_piece.ensures (c.both_left.invariant has other are others_are)

pub both_left-preserved : goal.both_left-preserved
both_left-preserved c = λ has other are others_are.
    common_swapped other has c.args.others.now c.args.runs.now (c.both_left.j + 1) c.both_left.i _
    (common_next other has c.args.others.now c.args.runs.now c.both_left.j c.both_left.i _ c.meeting.result c.both_left.met.items _ others_are are (omega arith) (omega arith)
    c.if-ends_by.ensures (meeting_swapped _ _ c.meeting.result c.meeting.ensures) c.in_ok-push_piece.ensures
    (common_swapped has other c.args.runs.now c.args.others.now c.both_left.i c.both_left.j c.both_left.met.items (c.both_left.invariant has other are others_are)))

pub returns : goal.returns
returns c = λ has other are others_are.
    all_came (is_common has other) (InBoth c.args.runs.now c.args.others.now c.both_left.i c.both_left.j) c.both_left.met.items (c.both_left.invariant has other are others_are)
    (λ pin still.
    let a = still.0.from in
    let b = still.0.within in
    let d = still.1.from in
    let e = still.1.within in
    elim c.both_left-test.branch [ then-both_left-test+else-j-others w ↦ omega arith | else-both_left-test w ↦ omega arith ])
