-- One word more adds its bits of the span that the other list lacks.
use Rattle.std.proofs.Common.{◌<◌, ◌^◌, ◌&&◌, not, nat_le, nat_lt, slice_index, refl, arith}
use Rattle.jh_shape.specs.Private.Marks.{is_marked}
use Rattle.jh_shape.proofs.WordLemmas.{free_none, free_bit, free_more, free_end}
use Rattle.jh_shape.proofs.marks.mark_free.Goals as goal

pub loop-word-init : goal.loop-word-init
loop-word-init c = λ k. free_none c.args.from c.args.to k (is_marked c.args.words.now k) (not (is_marked c.args.taken.now k))

pub loop-word-preserved : goal.loop-word-preserved
loop-word-preserved c = λ k.
    let word = c.loop-word.word in
    let from = c.args.from in
    let to = c.args.to in
    let fits : slice_index c.args.taken.now word < 2 ^ 64 = (let range = c.type_inv.taken word in omega arith) in
    free_more from to word k (is_marked c.args.words.now k) (not (is_marked c.args.taken.now k)) _ _ _ (c.loop-word.invariant k)
    (λ here. free_bit k word c.span_bits.result _ c.args.taken.now (nat_le from k && nat_lt k to) refl fits here (c.span_bits.ensures k here))
    (c.add_bits.ensures.marks k)

pub returns : goal.returns
returns c = λ k.
    free_end c.args.from c.args.to c.loop-word.word k (is_marked c.args.words.now k) (not (is_marked c.args.taken.now k)) _
    (let end = c.div_ceil-word-end.ensures in let past = c.loop-word-test.false in omega arith) (c.loop-word.invariant k)
