-- The bytes of one page more.
use Rattle.std.proofs.Common.{◌+◌, ◌≤◌, arith, ◌∙◌}
use Rattle.jh_frames.specs.Memory.{byte_at}
use Rattle.jh_frames.proofs.RangeLemmas.{row_more}
use Rattle.jh_frames.proofs.frames.Frames.append_pieces.Goals as goal

pub loop-done-preserved : goal.loop-done-preserved
loop-done-preserved c =
    let within : c.loop-done.done + c.min-piece.result ≤ c.args.count = omega (arith, c.min-piece.ensures) in
    record {
      within = within;
      items = c.append_piece.ensures.items ∙ row_more c.args.buffer.now.items c.loop-done.buffer.items (byte_at c.args.self.now) c.args.at c.loop-done.done c.min-piece.result c.loop-done.invariant.items;
      room = omega (arith, c.append_piece.ensures.len, c.append_piece.ensures.capacity, c.loop-done.invariant.room, within);
    }
