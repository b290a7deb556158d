-- One word more, and no more marks are added than there are slots below the span's end.
use Rattle.std.proofs.Common.{◌+◌, ◌≤◌, arith}
use Rattle.jh_shape.specs.Private.Marks.{is_marked}
use Rattle.jh_shape.proofs.CountLemmas.{grown}
use Rattle.jh_shape.proofs.WordLemmas.{words_none, words_more, words_end, more_fit}
use Rattle.jh_shape.proofs.marks.mark_span.Goals as goal

pub loop-word-init : goal.loop-word-init
loop-word-init c = (omega arith, λ k. words_none c.args.from c.args.to k (is_marked c.args.words.now k), λ end past. omega arith)

pub overflow_add-more : goal.overflow_add-more
overflow_add-more c =
    let fits : c.loop-word.more + c.mark_in_word-more.result ≤ c.args.to =
    more_fit (λ k. is_marked c.mark_in_word-more.new.words k) _ _ c.args.to c.loop-word.more c.mark_in_word-more.result (c.loop-word.invariant.2 c.args.to (omega arith)) (c.mark_in_word-more.ensures.more c.args.to (omega arith)) in
    omega arith

pub loop-word-preserved : goal.loop-word-preserved
loop-word-preserved c = (
  more_fit (λ k. is_marked c.mark_in_word-more.new.words k) _ _ c.args.to c.loop-word.more c.mark_in_word-more.result (c.loop-word.invariant.2 c.args.to (omega arith)) (c.mark_in_word-more.ensures.more c.args.to (omega arith)),
  λ k. words_more c.args.from c.args.to c.loop-word.word k (is_marked c.args.words.now k) _ _ (c.loop-word.invariant.1 k) (c.mark_in_word-more.ensures.marks k),
  λ end past. grown _ _ _ c.loop-word.more c.mark_in_word-more.result (c.loop-word.invariant.2 end past) (c.mark_in_word-more.ensures.more end past),
)

pub returns-clause-marks : goal.returns-clause-marks
returns-clause-marks c = λ k. words_end c.args.from c.args.to c.loop-word.word k (is_marked c.args.words.now k) _ (let end = c.div_ceil-word-end.ensures in let past = c.loop-word-test.false in omega arith) (c.loop-word.invariant.1 k)

pub returns-clause-more : goal.returns-clause-more
returns-clause-more c = λ end past. c.loop-word.invariant.2 end past
