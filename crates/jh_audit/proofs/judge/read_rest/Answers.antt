-- Each line that is read stands behind those before it.
use Rattle.std.proofs.Common.{◌++◌}
use Rattle.jh_num.proofs.Public.{passed_up}
use Rattle.jh_audit.specs.Private.Rest.{EndsAtFault}
use Rattle.jh_audit.proofs.RestLemmas.{reads_on, ends_at, ends_text}
use Rattle.jh_audit.proofs.judge.read_rest.Goals as goal

pub returns-in_err-next-clause-err : goal.returns-in_err-next-clause-err
returns-in_err-next-clause-err c =
    passed_up c.from_residual.result c.in_err-next.field-0.0 (EndsAtFault c.args.lines.now) c.from_residual.ensures.1
    (ends_at c.lines_tell_the_text.ensures.refused c.args.lines.now c.loop.lines c.next.new.self c.in_err-next.field-0.0 c.loop.invariant c.in_err-next.ensures.err)

pub loop-preserved : goal.loop-preserved
loop-preserved c =
    reads_on c.lines_tell_the_text.ensures.goes_on c.args.lines.now c.loop.lines c.next.new.self c.in-Some.field-0 c.loop.invariant (rw c.in-Some.is at c.in_ok-next.ensures.ok)

pub returns-clause-ok : goal.returns-clause-ok
returns-clause-ok c = record {
  rest = c.loop.invariant.between;
  spelled = λ text before h.
      ends_text c.lines_tell_the_text.ensures.ends text (before ++ c.loop.invariant.between) c.loop.lines c.next.new.self c.in_ok-next.field-0
      (c.loop.invariant.reads text before h) c.in_ok-next.ensures.ok c.in_default.not-Some;
}
