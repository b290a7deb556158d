-- Those so far are as their type has them.
use Rattle.std.proofs.Common.{ℕ, ◌<◌}
use Rattle.std.specs.List.{AllWithin}
use Rattle.jh_run.proofs.typed.bytes_are_typed.Given as goal

abbrev pub invariant-loop-byte : goal.invariant-loop-byte
invariant-loop-byte l = AllWithin (λ (b : ℕ). b < 256) l.bytes 0 l.byte-index
