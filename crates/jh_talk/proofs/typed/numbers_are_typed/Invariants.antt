-- Those so far are as their type has them.
use Rattle.std.proofs.Common.{ℕ, ◌<◌, ◌^◌}
use Rattle.std.specs.List.{AllWithin}
use Rattle.jh_talk.proofs.typed.numbers_are_typed.Given as goal

abbrev pub invariant-loop-number : goal.invariant-loop-number
invariant-loop-number l = AllWithin (λ (n : ℕ). n < 2 ^ 64) l.numbers 0 l.number-index
