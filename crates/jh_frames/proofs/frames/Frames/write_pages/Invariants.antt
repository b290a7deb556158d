-- The bytes so far are stored and their pages held, and what is spare is enough for the rest.
use Rattle.std.proofs.Common.{◌≡◌, ℕ, ◌+◌, ◌-◌, ◌/◌, ◌<◌, ◌≤◌, true, length, take}
use Rattle.jh_num.specs.Memory.{stored}
use Rattle.jh_frames.specs.Memory.{byte_at, holds, missing, pages_in}
use Rattle.jh_frames.proofs.frames.Frames.write_pages.Given as goal

abbrev pub invariant-loop-done : goal.invariant-loop-done
invariant-loop-done l = record {
  within : l.done ≤ length l.bytes;
  bytes : (q : ℕ) → byte_at l.self q ≡ stored (byte_at l.fn.self) l.at (take l.done l.bytes) q;
  base : l.self.own.base ≡ l.fn.self.own.base;
  size : length l.self.own.bytes ≡ length l.fn.self.own.bytes;
  held : (q : ℕ) → l.at ≤ q → q < l.at + l.done → holds l.self q ≡ true;
  kept : (q : ℕ) → holds l.fn.self q ≡ true → holds l.self q ≡ true;
  rest : missing l.self (l.at + l.done) (length l.bytes - l.done) ≤ l.self.guest.spare;
  spare : l.fn.self.guest.spare + missing l.self (l.at + l.done) (length l.bytes - l.done) ≤ l.self.guest.spare + missing l.fn.self l.at (length l.bytes);
  below : (q : ℕ) → q / 4096 < l.at / 4096 → holds l.self q ≡ holds l.fn.self q;
  above : (q : ℕ) → l.at / 4096 + pages_in l.at (length l.bytes) ≤ q / 4096 → holds l.self q ≡ holds l.fn.self q;
}

abbrev pub decreases-loop-done : goal.decreases-loop-done
decreases-loop-done l = length l.bytes - l.done
