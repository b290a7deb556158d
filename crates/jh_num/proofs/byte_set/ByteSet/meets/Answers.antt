-- A range that meets has the later of both starts, and a shared byte is in a range that meets.
use Rattle.jh_num.proofs.ReadLemmas.{meets_decided}
use Rattle.jh_num.proofs.byte_set.ByteSet.meets.Goals as goal

pub returns-then-r : goal.returns-then-r
returns-then-r c =
    rw (← c.self.view_is) (meets_decided _ c.args.r _ c.self.invariant c.if-r.true (rw c.as_slice.ensures.value at c.any_meets.ensures))
