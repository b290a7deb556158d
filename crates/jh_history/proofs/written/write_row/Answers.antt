-- One byte more.
use Rattle.std.proofs.Common.{◌∙◌, refl}
use Rattle.jh_history.proofs.KeptLemmas.{over_more}
use Rattle.jh_history.proofs.written.write_row.Goals as goal

pub loop-k-preserved : goal.loop-k-preserved
loop-k-preserved c = λ image places q.
    over_more image c.loop-k.bytes.items c.push.new.self.items c.args.row.first c.further.result _ c.loop-k.k c.args.row.count c.loop-k.rest places q c.loop-k-test.true c.further.ensures refl c.in_ok-push.ensures.items
    ∙ c.loop-k.invariant image places q
