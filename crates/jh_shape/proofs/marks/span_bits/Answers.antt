-- The bits between the two shifts are those of the span's slots in the word.
use Rattle.std.proofs.Common.{◌-◌, ◌*◌, ◌%◌, min, ◌∙◌, arith}
use Rattle.jh_shape.proofs.WordLemmas.{bits_between, span_in_word}
use Rattle.jh_shape.proofs.marks.span_bits.Goals as goal

pub returns : goal.returns
returns c = λ k here.
    rw (c.min-past.ensures, c.saturating_sub-first.ensures)
    (bits_between (c.args.from - 64 * c.args.word) (min (c.args.to - 64 * c.args.word) 64) (k % 64) (omega arith) (omega arith) (omega arith)
    ∙ span_in_word k c.args.word c.args.from c.args.to here)
