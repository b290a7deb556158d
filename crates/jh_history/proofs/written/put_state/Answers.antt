-- The state's four bytes.
use Rattle.std.proofs.Common.{◌∙◌}
use Rattle.jh_history.specs.Private.PlainView.{last_byte}
use Rattle.jh_history.proofs.PageWriteLemmas.{put_state}
use Rattle.jh_history.proofs.written.put_state.Goals as goal

pub returns : goal.returns
returns c = λ image q. c.in_ok-put.ensures image q ∙ put_state (last_byte image c.args.bytes.now.items) c.args.cell c.args.state c.to_le_bytes.result q c.to_le_bytes.ensures
