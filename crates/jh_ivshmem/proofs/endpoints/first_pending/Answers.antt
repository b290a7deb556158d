-- The search goes over the cell's own keys, up to the first that tells.
use Rattle.std.proofs.Common.{sym, ◌∙◌, arith}
use Rattle.jh_ivshmem.proofs.OrderLemmas.{told_first, told_next, told_all, told_whole}
use Rattle.jh_ivshmem.proofs.endpoints.first_pending.Goals as goal

pub loop-i-init : goal.loop-i-init
loop-i-init c = told_first c.args.cell c.args.keys.now c.insertion_index-i.result c.insertion_index-i.ensures.bound c.insertion_index-i.ensures.partition

pub returns-then-ends_search : goal.returns-then-ends_search
returns-then-ends_search c =
    c.pending_for.ensures
    ∙ told_all c.args.cell c.args.keys.now c.insertion_index-i.result c.loop-i.i _ c.insertion_index-i.ensures.partition c.requires (omega arith) (omega arith) c.loop-i.invariant (sym c.if-ends_search.ensures)

pub loop-i-preserved : goal.loop-i-preserved
loop-i-preserved c = told_next c.args.cell c.args.keys.now c.loop-i.i _ (omega arith) c.loop-i.invariant (sym c.if-ends_search.ensures)

pub returns : goal.returns
returns c = told_whole c.args.cell c.args.keys.now c.loop-i.i (omega arith) c.loop-i.invariant
