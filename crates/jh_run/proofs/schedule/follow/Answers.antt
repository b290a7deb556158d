-- The board begins with an empty journal.
use Rattle.jh_run.proofs.EndLemmas.{Follows_from, full_at_item}
use Rattle.jh_run.proofs.schedule.follow.Goals as goal

pub returns-clause-followed : goal.returns-clause-followed
returns-clause-followed c =
    let laws = c.items_run_until_one_is_cut_short.ensures in
    Follows_from laws.run laws.cut c.args.image c.args.limit c.in_ok-board.board c.follow_on.new.board c.args.schedule.now c.in_ok-full.full c.how_ended.result c.in_ok-board.ensures c.how_ended.ensures c.in_ok-full.ensures.ok

pub returns-clause-full : goal.returns-clause-full
returns-clause-full c =
    let laws = c.items_run_until_one_is_cut_short.ensures in
    let followed = Follows_from laws.run laws.cut c.args.image c.args.limit c.in_ok-board.board c.follow_on.new.board c.args.schedule.now c.in_ok-full.full c.how_ended.result c.in_ok-board.ensures c.how_ended.ensures c.in_ok-full.ensures.ok in
    full_at_item laws.cut c.args.image c.args.limit c.args.schedule.now c.follow_on.new.board c.how_ended.result followed c.journal.ensures.within
