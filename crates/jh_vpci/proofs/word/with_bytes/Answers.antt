-- Three blocks of bits are added up, which stay one word where the access ends in it.
use Rattle.std.proofs.Common.{◌≡◌, ◌+◌, ◌*◌, ◌/◌, ◌%◌, ◌^◌, ◌<◌, ◌≤◌, arith, refl}
use Rattle.std.proofs.lemmas.Nat.{pow-add}
use Rattle.jh_vpci.proofs.SplicedLemmas.{placed, placed_lt}
use Rattle.jh_vpci.proofs.word.with_bytes.Goals as goal

-- what the code adds up
sum_is_placed : (c : goal.After-from-3) →
    c.from.result % c.unit-unit.result + c.from-2.result % c.span-span.result * c.unit-unit.result
    + c.from-3.result / (c.unit-unit.result * c.span-span.result) * (c.unit-unit.result * c.span-span.result)
    ≡ placed c.args.word (8 * (c.args.at % 4)) (8 * c.args.width) c.args.value
sum_is_placed c =
    rw (
      pow-add 2 (8 * (c.args.at % 4)) (8 * c.args.width),
      c.unit-unit.ensures.value,
      c.span-span.ensures.value,
      c.from.ensures,
      c.from-2.ensures,
      c.from-3.ensures,
    ) refl

pub overflow_cast-result : goal.overflow_cast-result
overflow_cast-result c =
    let within : 8 * (c.args.at % 4) + 8 * c.args.width ≤ 32 = omega arith in
    let is_word : c.args.word < 2 ^ 32 = omega arith in
    let fits = placed_lt c.args.word (8 * (c.args.at % 4)) (8 * c.args.width) c.args.value within is_word in
    omega (arith, sum_is_placed c)

pub returns : goal.returns
returns c = sum_is_placed c
