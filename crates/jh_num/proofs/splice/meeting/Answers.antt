-- The range that ends first is done with; in the other list it is the same with both swapped.
use Rattle.std.proofs.Common.{◌≡◌, ◌≤◌, max, min, arith}
use Rattle.jh_num.proofs.MeetingLemmas.{stepped, swapped}
use Rattle.jh_num.proofs.splice.meeting.Goals as goal

pub both_left-preserved-then-x-y : goal.both_left-preserved-then-x-y
both_left-preserved-then-x-y c =
    let end : c.max-end.result ≡ max (min c.index-xs-i.result.end c.index-ys-j.result.end) c.max-start.result = omega arith in
    rw c.in_ok-push_piece.ensures.ok
    (stepped _ _ _ _ _ c.index-xs-i.result c.index-ys-j.result _ c.requires.xs_apart c.requires.ys_apart c.both_left.invariant c.both_left-test.true c.if-j-ys.true c.index-xs-i.is c.index-ys-j.is c.max-start.ensures end c.if-x-y.true)

pub both_left-preserved : goal.both_left-preserved
both_left-preserved c =
    let start : c.max-start.result ≡ max c.index-ys-j.result.start c.index-xs-i.result.start = omega arith in
    let end : c.max-end.result ≡ max (min c.index-ys-j.result.end c.index-xs-i.result.end) c.max-start.result = omega arith in
    let first : c.index-ys-j.result.end ≤ c.index-xs-i.result.end = let e = c.if-x-y.false in omega arith in
    rw c.in_ok-push_piece.ensures.ok
    (swapped _ _ _ _ _ (stepped _ _ _ _ _ c.index-ys-j.result c.index-xs-i.result _ c.requires.ys_apart c.requires.xs_apart (swapped _ _ _ _ _ c.both_left.invariant) c.if-j-ys.true c.both_left-test.true c.index-ys-j.is c.index-xs-i.is start end first))
