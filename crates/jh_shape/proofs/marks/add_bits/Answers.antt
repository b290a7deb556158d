-- The bits that the word lacked are the new marks, and as many are told.
use Rattle.std.proofs.Common.{◌+◌, ◌*◌, ◌^◌, ◌<◌, slice_index, sym, ap, ◌∙◌, arith}
use Rattle.jh_shape.specs.Private.Marks.{is_marked}
use Rattle.jh_shape.specs.Pages.{count_below}
use Rattle.jh_shape.proofs.WordLemmas.{added, added_more}
use Rattle.jh_shape.proofs.marks.add_bits.Goals as goal

pub returns-clause-marks : goal.returns-clause-marks
returns-clause-marks c = λ k. added c.args.words.now c.args.word c.args.bits k c.requires

pub returns-clause-more : goal.returns-clause-more
returns-clause-more c =
    let fits : slice_index c.args.words.now c.args.word < 2 ^ 64 = omega arith in
    let small : c.args.bits < 2 ^ 64 = (let range = c.ranges.bits in omega arith) in
    added_more c.args.words.now _ c.args.word c.args.bits fits small (λ k. added c.args.words.now c.args.word c.args.bits k c.requires)
    ∙ ap (λ m. count_below (λ k. is_marked c.args.words.now k) (64 * c.args.word + 64) + m) (sym c.from.ensures)
