-- The board begins with an empty journal.
use Rattle.std.proofs.Common.{◌∙◌}
use Rattle.jh_history.specs.declared.form.Form.TheVariants.{Two}
use Rattle.jh_run.proofs.EndLemmas.{Plays_from, quiet_exactly, full_exactly}
use Rattle.jh_run.proofs.schedule.play.Goals as goal

pub returns-clause-played : goal.returns-clause-played
returns-clause-played c =
    let laws = c.items_run_until_one_is_cut_short.ensures in
    Plays_from laws.run laws.cut c.args.image c.args.limit c.in_ok-board.board c.play_on.new.board c.args.schedule.now c.as_slice.result.now c.in_ok-full.full c.how_ended.result c.in_ok-board.ensures c.how_ended.ensures (c.as_slice.ensures.value ∙ c.in_ok-cpus.ensures.cpus) c.in_ok-full.ensures.ok

pub returns-clause-quiet : goal.returns-clause-quiet
returns-clause-quiet c =
    let laws = c.items_run_until_one_is_cut_short.ensures in
    let played = Plays_from laws.run laws.cut c.args.image c.args.limit c.in_ok-board.board c.play_on.new.board c.args.schedule.now c.as_slice.result.now c.in_ok-full.full c.how_ended.result c.in_ok-board.ensures c.how_ended.ensures (c.as_slice.ensures.value ∙ c.in_ok-cpus.ensures.cpus) c.in_ok-full.ensures.ok in
    let ends = c.played_journals_are_quiet_or_full.ensures in
    quiet_exactly c.args.image c.args.limit c.args.schedule.now c.play_on.new.board c.how_ended.result played (ends.quiet c.args.image Two c.args.limit c.args.schedule.now c.requires.admitted) (ends.full c.args.image Two c.args.limit c.args.schedule.now) (ends.reached c.args.image Two c.args.limit c.args.schedule.now)

pub returns-clause-full : goal.returns-clause-full
returns-clause-full c =
    let laws = c.items_run_until_one_is_cut_short.ensures in
    let played = Plays_from laws.run laws.cut c.args.image c.args.limit c.in_ok-board.board c.play_on.new.board c.args.schedule.now c.as_slice.result.now c.in_ok-full.full c.how_ended.result c.in_ok-board.ensures c.how_ended.ensures (c.as_slice.ensures.value ∙ c.in_ok-cpus.ensures.cpus) c.in_ok-full.ensures.ok in
    let ends = c.played_journals_are_quiet_or_full.ensures in
    full_exactly c.args.image c.args.limit c.args.schedule.now c.play_on.new.board c.how_ended.result played (ends.quiet c.args.image Two c.args.limit c.args.schedule.now c.requires.admitted) (ends.full c.args.image Two c.args.limit c.args.schedule.now) (ends.reached c.args.image Two c.args.limit c.args.schedule.now)
