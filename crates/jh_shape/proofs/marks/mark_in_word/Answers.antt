-- Past the word and the span no mark differs, so that any end behind them counts the same growth.
use Rattle.std.proofs.Common.{◌+◌, ◌*◌, min, arith}
use Rattle.jh_shape.specs.Private.Marks.{is_marked}
use Rattle.jh_shape.proofs.WordLemmas.{grows_alike, past_span}
use Rattle.jh_shape.proofs.marks.mark_in_word.Goals as goal

pub returns-clause-more : goal.returns-clause-more
returns-clause-more c = λ end past.
    let word = c.args.word in
    let last = 64 * word + 64 in
    grows_alike (λ k. is_marked c.args.words.now k) (λ k. is_marked c.add_bits.new.words k) (min last c.args.to) last end c.add_bits.result
    (λ k h. past_span k word c.args.from c.args.to (is_marked c.args.words.now k) (is_marked c.add_bits.new.words k) _ h (c.span_bits.ensures k) (c.add_bits.ensures.marks k))
    (omega arith) (omega arith) c.add_bits.ensures.more
