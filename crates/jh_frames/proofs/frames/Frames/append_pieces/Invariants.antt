-- The bytes so far, and room for the rest.
use Rattle.std.proofs.Common.{◌≡◌, ◌+◌, ◌-◌, ◌≤◌, ◌++◌, map}
use Rattle.std.specs.Prelude.{vec_len, vec_capacity}
use Rattle.std.specs.List.{range_with_len}
use Rattle.jh_frames.specs.Memory.{byte_at}
use Rattle.jh_frames.proofs.frames.Frames.append_pieces.Given as goal

abbrev pub invariant-loop-done : goal.invariant-loop-done
invariant-loop-done l = record {
  within : l.done ≤ l.count;
  items : l.buffer.items ≡ l.initial.buffer.items ++ map (byte_at l.self) (range_with_len l.at l.done);
  room : vec_len l.buffer + (l.count - l.done) ≤ vec_capacity l.buffer;
}

abbrev pub decreases-loop-done : goal.decreases-loop-done
decreases-loop-done l = l.count - l.done
