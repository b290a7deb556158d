-- The whole page.
use Rattle.std.proofs.Common.{◌∙◌}
use Rattle.jh_history.specs.Private.PlainView.{last_byte}
use Rattle.jh_history.proofs.PageWriteLemmas.{put_fresh}
use Rattle.jh_history.proofs.written.put_fresh.Goals as goal

pub returns : goal.returns
returns c = λ image q.
    c.in_ok-put.ensures image q
    ∙ put_fresh (last_byte image c.args.bytes.now.items) c.args.cell c.args.state c.args.window c.args.console c.fresh.new.page q c.fresh.auto.page c.fresh.ensures
