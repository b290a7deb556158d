-- The range with the first byte has all of them, as the byte behind a range isn't in the set.
use Rattle.std.proofs.Common.{◌<◌, arith}
use Rattle.jh_num.proofs.ReadLemmas.{covers_decided}
use Rattle.jh_num.proofs.byte_set.ByteSet.covers.Goals as goal

pub returns-else-r : goal.returns-else-r
returns-else-r c =
    let some : c.args.r.start < c.args.r.end = let o = c.args.r.ordered in let n = c.if-r.false in omega arith in
    rw (← c.self.view_is) (covers_decided _ c.args.r _ c.self.invariant some (rw c.as_slice.ensures.value at c.any_covers.ensures))
