-- One word is cleared, and the page that it named is free.
use Rattle.std.proofs.Common.{◌+◌, ◌*◌, refl}
use Rattle.jh_edit.proofs.StepLemmas.{cleared_is, given_back, put_in_page}
use Rattle.jh_edit.proofs.mending.prune.Goals as goal

pub returns-clause-cleared : goal.returns-clause-cleared
returns-clause-cleared c =
    let put = c.set_word.ensures in
    cleared_is c.args.f.now c.set_word.new.self c.args.link (c.args.link.parent + 8 * c.args.link.slot) refl c.requires.link c.requires.last
    (record {
      base = put.base;
      size = put.size;
      guest = put.guest;
      here = put.at;
      below = put.below;
      above = put.above;
      words_below = put.words_below;
      words_above = put.words_above;
    })

pub returns-clause-memory : goal.returns-clause-memory
returns-clause-memory c =
    let put = c.set_word.ensures in
    put_in_page c.args.link.parent c.args.link.slot 0 c.args.f.now c.set_word.new.self c.requires.link.names.within
    (record {
      base = put.base;
      size = put.size;
      guest = put.guest;
      here = put.at;
      below = put.below;
      above = put.above;
      words_below = put.words_below;
      words_above = put.words_above;
    })

pub returns-clause-pool : goal.returns-clause-pool
returns-clause-pool c = given_back c.args.link.page c.args.p.now c.give.new.self c.give.ensures.base c.give.ensures.size c.give.ensures.given c.give.ensures.others c.give.ensures.used
