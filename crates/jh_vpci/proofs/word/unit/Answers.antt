-- The last byte of a word begins at bit 24, and a power of 2 rises with its exponent.
use Rattle.std.proofs.Common.{ℕ, ◌*◌, ◌^◌, ◌<◌, ◌≤◌, arith, subst, sym}
use Rattle.std.proofs.Math.Nat.{pow-le-pow_right}
use Rattle.std.proofs.lemmas.Nat.{one_shl}
use Rattle.jh_vpci.proofs.word.unit.Goals as goal

pub returns-clause-bound : goal.returns-clause-bound
returns-clause-bound c =
    let within : c.from.result * 8 ≤ 24 = omega arith in
    let below : c.from.result * 8 < 64 = omega arith in
    let P : ℕ → Type 0 = λ n. n ≤ 2 ^ 24 in
    subst P (sym (one_shl (c.from.result * 8) 64 below)) (pow-le-pow_right (let low : 0 < 2 = omega arith in low) within)
