-- One byte more.
use Rattle.std.proofs.Common.{ℕ, List, get_or, ap, sym, ◌∙◌}
use Rattle.std.proofs.lemmas.List.{take_all}
use Rattle.jh_history.specs.Private.PlainView.{last_byte, put_in_page}
use Rattle.jh_history.proofs.PageWriteLemmas.{put_more, put_none, again}
use Rattle.jh_history.proofs.written.put.Goals as goal

pub loop-i-init : goal.loop-i-init
loop-i-init c = λ image q. put_none (last_byte image c.args.bytes.now.items) c.args.cell c.args.at q

pub loop-i-preserved : goal.loop-i-preserved
loop-i-preserved c = λ image q.
    let b : ℕ = get_or c.args.list.now c.loop-i.i 0 in
    put_more image c.args.bytes.now.items c.loop-i.bytes.items c.push.new.self.items c.args.cell c.args.at c.loop-i.i b c.args.list.now q c.loop-i-test.true (sym (again c.args.list.now c.loop-i.i b c.loop-i-test.true)) (c.loop-i.invariant image q) c.in_ok-push.ensures.items

pub returns : goal.returns
returns c = λ image q.
    c.loop-i.invariant image q ∙ ap (λ (list : List ℕ). put_in_page c.args.cell c.args.at list (last_byte image c.args.bytes.now.items) q) (take_all c.loop-i.i c.args.list.now c.loop-i-test.false)
