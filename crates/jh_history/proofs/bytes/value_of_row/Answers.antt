-- One byte below those that are spelled already.
use Rattle.std.proofs.Common.{ℕ, ◌+◌, ◌-◌, ◌*◌, ◌^◌, ◌<◌, ◌∙◌, ap, arith}
use Rattle.jh_history.proofs.ValueLemmas.{spelled_more, fits_more, word_more}
use Rattle.jh_history.proofs.bytes.value_of_row.Goals as goal

pub overflow_mul-value : goal.overflow_mul-value
overflow_mul-value g c =
    let h : c.loop-k.value * 256 + 0 < 2 ^ 64 = word_more c.loop-k.value 0 c.args.row.count c.loop-k.k c.loop-k-test.true c.loop-k.auto.k c.requires.small (c.loop-k.invariant.fits (8 - c.args.row.count) c.requires.fits (omega (arith, c.requires.small))) (omega arith) in omega arith

pub overflow_add-value : goal.overflow_add-value
overflow_add-value g c =
    let byte : c.from.result < 256 = omega arith in
    let h : c.loop-k.value * 256 + c.from.result < 2 ^ 64 = word_more c.loop-k.value c.from.result c.args.row.count c.loop-k.k c.loop-k-test.true c.loop-k.auto.k c.requires.small (c.loop-k.invariant.fits (8 - c.args.row.count) c.requires.fits (omega (arith, c.requires.small))) byte in omega arith

pub loop-k-preserved : goal.loop-k-preserved
loop-k-preserved g c =
    let byte : c.from.result < 256 = omega arith in
    record {
      spells = λ rest is. ap (λ (b : ℕ). c.loop-k.value * 256 + b) (c.from.ensures ∙ c.byte.ensures ∙ ap (g.B.Bytes.byte_of c.args.bytes.now) c.further.ensures)
          ∙ spelled_more (g.B.Bytes.byte_of c.args.bytes.now) c.args.row.first c.loop-k.k c.args.row.count c.loop-k.value rest c.loop-k-test.true c.loop-k.auto.k (c.loop-k.invariant.spells rest is);
      fits = λ n small few. fits_more c.loop-k.value c.from.result n c.args.row.count c.loop-k.k c.loop-k-test.true c.loop-k.auto.k (c.loop-k.invariant.fits n small few) byte;
    }
