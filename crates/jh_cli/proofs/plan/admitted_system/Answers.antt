-- The file's bytes are those of a system that no board has, and the call ends there.
use Rattle.jh_image.specs.Texts.{cause_text}
use Rattle.jh_cli.specs.Lines.{refusal_line}
use Rattle.jh_cli.proofs.OrderLemmas.{refuses_one}
use Rattle.jh_cli.proofs.PlanLemmas.{ends_unadmitted, told_cause}
use Rattle.jh_cli.proofs.plan.admitted_system.Goals as goal

pub returns-in-Some-clause-asked_until : goal.returns-in-Some-clause-asked_until
returns-in-Some-clause-asked_until g c =
    let name = c.args.name.now in
    let cause = c.in-Some.cause in
    let is = rw c.in-Some.is at c.in_ok-unadmitted.ensures in
    let told = rw c.as_bytes.ensures.value at c.stopped_for.ensures in
    refuses_one g.F.Files name (refusal_line name (cause_text cause)) c.args.files.now c.system.new.files c.stopped_for.result c.in-Ok.ensures.asked
    (told_cause c.in-Ok.system name cause is c.stopped_for.result told)

pub returns-in-Some-clause-err : goal.returns-in-Some-clause-err
returns-in-Some-clause-err g c =
    let is = rw c.in-Some.is at c.in_ok-unadmitted.ensures in
    let told = rw c.as_bytes.ensures.value at c.stopped_for.ensures in
    ends_unadmitted (g.F.Files.contents c.args.files.now) c.args.name.now c.in-Ok.system c.in-Some.cause c.in-Ok.ensures.ok is c.stopped_for.result told
