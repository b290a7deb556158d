-- The four bytes take the place of four.
use Rattle.std.proofs.Common.{slice_range, rules}
use Rattle.std.specs.Int.{to_le_bytes, w32}
use Rattle.jh_comm.proofs.PutLemmas.{put_stored}
use Rattle.jh_comm.proofs.page.set_state.Goals as goal

pub returns : goal.returns
returns c k below = put_stored c.args.page.now (to_le_bytes w32 c.args.state) c.write_u32.new.buf (slice_range c.args.page.now 8 12) 8 k c.write_u32.ensures (search rules) (search rules)
