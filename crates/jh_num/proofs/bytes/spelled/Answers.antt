-- One byte more, from the last on.
use Rattle.std.proofs.Common.{◌≡◌, ℕ, ◌+◌, ◌-◌, ◌*◌, ◌^◌, ◌<◌, length, subst, arith}
use Rattle.jh_num.proofs.MemoryLemmas.{byte_fits}
use Rattle.jh_num.proofs.SpelledLemmas.{spelled_start, spelled_below, spelled_whole, next_fits}
use Rattle.jh_num.proofs.bytes.spelled.Goals as goal

pub loop-k-init : goal.loop-k-init
loop-k-init c = record { number = spelled_start c.args.bytes.now; small = omega arith }

pub overflow_mul-number : goal.overflow_mul-number
overflow_mul-number c =
    let few : c.loop-k.k < 8 = omega arith in
    let small : c.loop-k.number * 256 + 0 < 2 ^ 64 = next_fits c.loop-k.number 0 c.loop-k.k few c.loop-k.invariant.small (omega arith) in
    omega arith

pub overflow_add-number : goal.overflow_add-number
overflow_add-number c =
    let few : c.loop-k.k < 8 = omega arith in
    let byte : c.from.result < 256 = omega (arith, c.from.ensures, c.type_inv.bytes (length c.args.bytes.now - 1 - c.loop-k.k)) in
    let small : c.loop-k.number * 256 + c.from.result < 2 ^ 64 = next_fits c.loop-k.number c.from.result c.loop-k.k few c.loop-k.invariant.small byte in
    omega arith

pub loop-k-preserved : goal.loop-k-preserved
loop-k-preserved c =
    let byte : c.from.result < 256 = omega (arith, c.from.ensures, c.type_inv.bytes (length c.args.bytes.now - 1 - c.loop-k.k)) in
    record {
      number = spelled_below c.args.bytes.now c.loop-k.k c.loop-k.number c.from.result c.loop-k-test.true c.loop-k.invariant.number c.from.ensures;
      small = byte_fits c.loop-k.number c.from.result c.loop-k.k c.loop-k.invariant.small byte;
    }

pub returns : goal.returns
returns c =
    let all : c.loop-k.k ≡ length c.args.bytes.now = omega arith in
    record {
      value = spelled_whole c.args.bytes.now c.loop-k.k c.loop-k.number (omega arith) c.loop-k.invariant.number;
      fits = subst (λ (n : ℕ). c.loop-k.number < 256 ^ n) all c.loop-k.invariant.small;
    }
