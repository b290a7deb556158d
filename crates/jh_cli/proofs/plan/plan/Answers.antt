-- The system is read, and then the demands.
use Rattle.std.proofs.Common.{[], inl, inr}
use Rattle.jh_cli.specs.Plan.{admitted_file, AdmittedRefusal, PlansBy}
use Rattle.jh_cli.specs.Reading.{EndsAtFile}
use Rattle.jh_cli.specs.Order.{AsksTo, AsksPlan}
use Rattle.jh_cli.proofs.StopLemmas.{goes_on, counted_behind, told_up, both_ended, on_ending}
use Rattle.jh_cli.proofs.plan.plan.Goals as goal

pub returns-clause-ends : goal.returns-clause-ends
returns-clause-ends g c =
    let contents = g.F.Files.contents c.args.files.now in
    let rest = rw c.admitted_system.ensures.kept at c.plan_by.ensures.ends in
    goes_on contents c.args.system_name.now admitted_file (PlansBy contents c.args.name.now) c.in_ok-system.system c.in_ok-system.ensures.ok c.plan_by.result rest

pub returns-clause-counted : goal.returns-clause-counted
returns-clause-counted g c =
    counted_behind (g.F.Files.faults c.args.files.now) (g.F.Files.faults c.admitted_system.new.files) (g.F.Files.faults c.plan_by.new.files) (g.F.Files.failed c.plan_by.new.files) c.admitted_system.ensures.never_falls c.plan_by.result c.plan_by.ensures.counted

pub returns-clause-asked : goal.returns-clause-asked
returns-clause-asked g c =
    let contents = g.F.Files.contents c.args.files.now in
    let s = c.args.files.now in
    let t = c.admitted_system.new.files in
    let u = c.plan_by.new.files in
    on_ending (AsksTo g.F.Files t u [] c.args.name.now) (AsksPlan g.F.Files s u contents c.args.system_name.now c.args.name.now) c.plan_by.result
    (λ reply last. inr (record { of_system = c.in_ok-system.system; spells = c.in_ok-system.ensures.ok; behind = t; asked = c.in_ok-system.ensures.asked; rest = last })) c.plan_by.ensures.asked

pub returns-in_err-system-clause-asked : goal.returns-in_err-system-clause-asked
returns-in_err-system-clause-asked g c =
    let contents = g.F.Files.contents c.args.files.now in
    let system = c.args.system_name.now in
    let s = c.args.files.now in
    let t = c.admitted_system.new.files in
    told_up (AsksPlan g.F.Files s t contents system c.args.name.now) c.from_residual.result c.in_err-system.field-0.0 c.from_residual.ensures.1
    (both_ended (EndsAtFile contents system AdmittedRefusal) (AsksTo g.F.Files s t [] system) (AsksPlan g.F.Files s t contents system c.args.name.now) c.in_err-system.field-0.0
    (λ reply ends last. inl (ends, last)) c.in_err-system.ensures.err c.in_err-system.ensures.asked_until)
