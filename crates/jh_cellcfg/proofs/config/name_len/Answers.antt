-- The first zero is where the bytes before it aren't.
use Rattle.std.proofs.Common.{◌≡◌, ◌∙◌, eqb, arith, sym, length, refl}
use Rattle.std.proofs.lemmas.List.Sums.{position_or_len_is}
use Rattle.jh_cellcfg.proofs.config.name_len.Goals as goal

pub returns-then-name-i-eq0-clause-len : goal.returns-then-name-i-eq0-clause-len
returns-then-name-i-eq0-clause-len c =
    sym (position_or_len_is (λ b. eqb b 0) c.args.name.now c.loop-i.i 0 (omega arith) c.loop-i.invariant (λ _. rw c.if-name-i-eq0.true refl))

pub returns-clause-len : goal.returns-clause-len
returns-clause-len c =
    let all : length c.args.name.now ≡ c.loop-i.i = omega arith in
    all ∙ sym (position_or_len_is (λ b. eqb b 0) c.args.name.now c.loop-i.i 0 (omega arith) c.loop-i.invariant (λ lt. absurd (omega arith)))
