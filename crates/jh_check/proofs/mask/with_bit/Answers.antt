-- A set bit is on whatever it was and leaves the others; where nothing is set all stay.
use Rattle.std.proofs.Common.{sym, ap, nat_eq, ◌||◌, ◌∙◌}
use Rattle.std.specs.Int.{w16}
use Rattle.std.proofs.Math.Bool.{or-false}
use Rattle.std.proofs.lemmas.Bool.{or_right}
use Rattle.std.proofs.lemmas.Nat.Bits.{bit_at_set_same, bit_at_set_other}
use Rattle.jh_num.specs.Bits.{has_bit}
use Rattle.jh_check.proofs.mask.with_bit.Goals as goal

pub returns-then-on-clause-here : goal.returns-then-on-clause-here
returns-then-on-clause-here c = rw (bit_at_set_same w16 c.args.mask c.args.index c.requires) (sym (or_right (has_bit c.args.mask c.args.index) c.args.on c.if-on.true))

pub returns-then-on-clause-others : goal.returns-then-on-clause-others
returns-then-on-clause-others c = λ k other. ap (λ b. nat_eq b 1) (bit_at_set_other w16 c.args.mask c.args.index c.requires k other)

pub returns-clause-here : goal.returns-clause-here
returns-clause-here c =
    let mask = c.args.mask in
    let index = c.args.index in
    sym (ap (λ on. has_bit mask index || on) c.if-on.false ∙ or-false (has_bit mask index))
