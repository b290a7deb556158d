-- No reply, and the message's four bytes.
use Rattle.std.proofs.Common.{◌∙◌, refl}
use Rattle.std.specs.Prelude.{replicate}
use Rattle.jh_history.specs.Private.PlainView.{last_byte}
use Rattle.jh_history.proofs.PageWriteLemmas.{put_message}
use Rattle.jh_history.proofs.written.put_message.Goals as goal

pub returns : goal.returns
returns c = λ image q.
    c.in_ok-put-2.ensures image q
    ∙ put_message (last_byte image c.args.bytes.now.items) (last_byte image c.put.new.bytes.items) c.args.cell c.args.message (replicate 4 0) c.to_le_bytes.result q (c.in_ok-put.ensures image) refl c.to_le_bytes.ensures
