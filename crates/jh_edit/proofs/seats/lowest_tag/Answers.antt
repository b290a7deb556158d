-- Each tag below the last is had by a seat of its own, and there are fewer seats.
use Rattle.std.proofs.Common.{◌≤◌, length, arith}
use Rattle.jh_edit.proofs.TagLemmas.{as_many_seats}
use Rattle.jh_edit.proofs.seats.lowest_tag.Goals as goal

pub unreachable-requires : goal.unreachable-requires
unreachable-requires c =
    let many : c.loop-tag.tag ≤ length c.args.seats.now = as_many_seats c.args.seats.now c.loop-tag.tag c.loop-tag.invariant in
    let few = c.requires in
    omega arith
