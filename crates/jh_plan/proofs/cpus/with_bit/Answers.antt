-- A set bit is there, and the others stay.
use Rattle.std.proofs.Common.{ap, nat_eq}
use Rattle.std.specs.Int.{w8}
use Rattle.std.proofs.lemmas.Nat.Bits.{bit_at_set_same, bit_at_set_other}
use Rattle.jh_plan.proofs.cpus.with_bit.Goals as goal

pub returns-clause-here : goal.returns-clause-here
returns-clause-here c = ap (λ b. nat_eq b 1) (bit_at_set_same w8 c.args.byte c.args.bit c.requires)

pub returns-clause-others : goal.returns-clause-others
returns-clause-others c = λ k other. ap (λ b. nat_eq b 1) (bit_at_set_other w8 c.args.byte c.args.bit c.requires k other)
