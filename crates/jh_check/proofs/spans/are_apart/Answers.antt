-- A span that begins behind the one before it begins behind all, as those stand apart.
use Rattle.std.proofs.Common.{◌≡◌, true}
use Rattle.jh_check.proofs.SpanLemmas.{apart_none, apart_more}
use Rattle.jh_check.proofs.spans.are_apart.Goals as goal

pub loop-k-init : goal.loop-k-init
loop-k-init c = apart_none c.args.spans.now

pub loop-k-preserved : goal.loop-k-preserved
loop-k-preserved c =
    let h : c.is_behind.result ≡ true = cc in
    apart_more c.args.spans.now c.loop-k.k c.loop-k.invariant (c.is_behind.ensures.ordered h) (c.is_behind.ensures.apart h)
