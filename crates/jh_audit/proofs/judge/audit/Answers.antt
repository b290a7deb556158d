-- The answer that is right is the one that is right.
use Rattle.std.specs.Result.{IfOk}
use Rattle.jh_audit.specs.Judges.{JudgesText}
use Rattle.jh_audit.proofs.TextLemmas.{only_verdict, only_line, only_too_long, line_is, too_long_is}
use Rattle.jh_audit.proofs.judge.audit.Goals as goal

pub returns-in-Ok-clause-only : goal.returns-in-Ok-clause-only
returns-in-Ok-clause-only c =
    let ok : IfOk c.judge_text.result (JudgesText c.args.image c.args.text.now) = rw c.in-Ok.ensures.ok at c.judge_text.ensures.ok in
    only_verdict c.texts_go_both_ways.ensures.one c.one_answer.ensures.good_or_bad c.one_answer.ensures.good_or_long
    c.args.image c.args.text.now c.judge_text.result ok c.judge_text.ensures.err

pub returns-in-Ok-clause-line : goal.returns-in-Ok-clause-line
returns-in-Ok-clause-line c = λ room number.
    let ok : IfOk c.judge_text.result (JudgesText c.args.image c.args.text.now) = rw c.in-Ok.ensures.ok at c.judge_text.ensures.ok in (
      line_is c.args.text.now c.judge_text.result c.judge_text.ensures.err number,
      only_line c.one_answer.ensures.good_or_bad c.one_answer.ensures.bad_or_long c.one_answer.ensures.one_line
          c.args.image c.args.text.now c.judge_text.result ok c.judge_text.ensures.err room number,
    )

pub returns-in-Ok-clause-too_long : goal.returns-in-Ok-clause-too_long
returns-in-Ok-clause-too_long c = λ room.
    let ok : IfOk c.judge_text.result (JudgesText c.args.image c.args.text.now) = rw c.in-Ok.ensures.ok at c.judge_text.ensures.ok in (
      too_long_is c.args.text.now c.judge_text.result c.judge_text.ensures.err,
      only_too_long c.one_answer.ensures.good_or_long c.one_answer.ensures.bad_or_long
          c.args.image c.args.text.now c.judge_text.result ok c.judge_text.ensures.err room,
    )
