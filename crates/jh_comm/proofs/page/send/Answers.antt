-- The reply is cleared first, and the message is put over that.
use Rattle.std.proofs.Common.{rules, slice_range, slice_index, replicate}
use Rattle.std.specs.Int.{to_le_bytes, w32}
use borrow.Rule.Slice.PartMut.{put_mid}
use Rattle.jh_num.specs.Memory.{stored}
use Rattle.jh_comm.proofs.PutLemmas.{put_stored, put_over}
use Rattle.jh_comm.proofs.page.send.Goals as goal

pub returns : goal.returns
returns c k below =
    put_over (slice_index (put_mid 12 4 c.put.new.page c.write_u32.new.buf) k) (slice_index c.put.new.page) (stored (slice_index c.args.page.now) 16 (replicate 4 0)) 12 (to_le_bytes w32 c.args.message) k
    (put_stored c.put.new.page (to_le_bytes w32 c.args.message) c.write_u32.new.buf (slice_range c.put.new.page 12 16) 12 k c.write_u32.ensures (search rules) (search rules))
    (c.put.ensures k)
