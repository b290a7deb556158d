-- The pages so far that aren't held.
use Rattle.std.proofs.Common.{◌≡◌, ◌-◌, ◌+◌, ◌≤◌}
use Rattle.jh_frames.specs.Memory.{missing_from}
use Rattle.jh_frames.proofs.frames.Frames.missing_from.Given as goal

abbrev pub invariant-loop-number : goal.invariant-loop-number
invariant-loop-number l = record {
  missing : l.missing ≡ missing_from l.self l.first (l.number - l.first);
  most : l.missing + l.first ≤ l.number;
}
