-- One slot more is written.
use Rattle.std.proofs.Common.{◌∙◌, ap}
use Rattle.jh_edit.specs.Private.Slots.{want_at}
use Rattle.jh_edit.specs.Private.Written.{word_after}
use Rattle.jh_edit.proofs.WritingLemmas.{written_more}
use Rattle.jh_edit.proofs.writing.write_each.Goals as goal

pub loop-slot-preserved : goal.loop-slot-preserved
loop-slot-preserved c =
    let put = c.put.ensures in
    written_more c.args.how c.args.level c.args.page c.args.wants.now c.args.f.now c.loop-slot.f c.put.new.f c.loop-slot.slot c.word_after.result c.loop-slot-test.true c.loop-slot.invariant
    (c.word_after.ensures ∙ ap (word_after c.args.how c.args.level (want_at c.args.wants.now c.loop-slot.slot)) c.word.ensures)
    (record {
      base = put.base;
      size = put.size;
      guest = put.guest;
      here = put.at;
      below = put.below;
      above = put.above;
      words_below = put.words_below;
      words_above = put.words_above;
    })
