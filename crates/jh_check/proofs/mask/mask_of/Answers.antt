-- The bit put last tells its mark, the earlier ones stay, and past the end there is neither.
use Rattle.std.proofs.Common.{◌≡◌, ◌<◌, ◌≤◌, ◌||◌, false, get_or, sym, ap, ◌∙◌, ⊎_elim, arith}
use Rattle.std.proofs.lemmas.Bool.{cases_lt}
use Rattle.jh_num.specs.Bits.{has_bit}
use Rattle.jh_check.proofs.MaskLemmas.{no_bit, past_end, so_far}
use Rattle.jh_check.proofs.mask.mask_of.Goals as goal

pub loop-i-init : goal.loop-i-init
loop-i-init c = (λ k l. absurd (omega arith), λ k l. no_bit k)

pub loop-i-preserved : goal.loop-i-preserved
loop-i-preserved c =
    let i = c.loop-i.i in
    let others = c.with_bit-mask.ensures.others in (
      so_far (λ k. has_bit c.with_bit-mask.result k) (λ k. get_or c.args.marks.now k false) i
          (λ k l. others k (λ (e : k ≡ i). omega arith) ∙ c.loop-i.invariant.0 k l)
          (c.with_bit-mask.ensures.here ∙ ap (λ b. b || get_or c.args.marks.now i false) (c.loop-i.invariant.1 i (omega arith))),
      λ k l. others k (λ (e : k ≡ i). omega arith) ∙ c.loop-i.invariant.1 k (omega arith),
    )

pub returns : goal.returns
returns c = λ k.
    ⊎_elim
    (λ (low : k < c.loop-i.i). c.loop-i.invariant.0 k low)
    (λ (high : c.loop-i.i ≤ k). c.loop-i.invariant.1 k high ∙ sym (past_end c.args.marks.now k (omega arith)))
    (cases_lt k c.loop-i.i)
