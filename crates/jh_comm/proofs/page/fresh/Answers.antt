-- One thing after the other is put over zeros.
use Rattle.std.proofs.Common.{rules, ◌≡◌, slice_range, slice_index}
use Rattle.std.specs.Int.{to_le_bytes, w16, w32, w64}
use borrow.Rule.Slice.PartMut.{put_mid}
use Rattle.jh_num.specs.Memory.{stored}
use Rattle.jh_comm.specs.Page.{with_state, signature}
use Rattle.jh_comm.proofs.PutLemmas.{put_stored, put_over}
use Rattle.jh_comm.proofs.page.fresh.Goals as goal

pub returns : goal.returns
returns c k below =
    let signed = stored (λ j. 0) 0 signature in
    let named = stored signed 6 (to_le_bytes w16 1) in
    let told = with_state named c.args.state in
    let whole = stored told 24 c.args.console.now in
    let revised = put_mid 6 2 c.put.new.page c.write_u16.new.buf in
    let zero : slice_index c.fill.new.self k ≡ 0 = search rules in
    let first : slice_index c.put.new.page k ≡ signed k = put_over _ (slice_index c.fill.new.self) (λ j. 0) 0 signature k (c.put.ensures k) zero in
    let second : slice_index revised k ≡ named k =
    put_over _ (slice_index c.put.new.page) signed 6 (to_le_bytes w16 1) k
    (put_stored c.put.new.page (to_le_bytes w16 1) c.write_u16.new.buf (slice_range c.put.new.page 6 8) 6 k c.write_u16.ensures (search rules) (search rules)) first in
    let third : slice_index c.set_state.new.page k ≡ told k = put_over _ (slice_index revised) named 8 (to_le_bytes w32 c.args.state) k (c.set_state.ensures k below) second in
    let fourth : slice_index c.put-2.new.page k ≡ whole k = put_over _ (slice_index c.set_state.new.page) told 24 c.args.console.now k (c.put-2.ensures k) third in
    put_over _ (slice_index c.put-2.new.page) whole 56 (to_le_bytes w64 c.args.mmconfig) k
    (put_stored c.put-2.new.page (to_le_bytes w64 c.args.mmconfig) c.write_u64.new.buf (slice_range c.put-2.new.page 56 64) 56 k c.write_u64.ensures (search rules) (search rules)) fourth
