-- The bytes so far are those from the place on.
use Rattle.std.proofs.Common.{◌≡◌, ℕ, ◌+◌, ◌<◌, get_or, length}
use Rattle.jh_frames.specs.Memory.{byte_at}
use Rattle.jh_frames.proofs.frames.Frames.torn_value.Given as goal

abbrev pub invariant-loop-k : goal.invariant-loop-k
invariant-loop-k l = record {
  long : length l.bytes ≡ 8;
  read : (j : ℕ) → j < l.k → get_or l.bytes j 0 ≡ byte_at l.self (l.at + j);
}
