-- The demands' file is the last that is read.
use Rattle.jh_cli.specs.Private.Endings.{reply_of}
use Rattle.jh_cli.proofs.OrderLemmas.{planned_was_read, read_last}
use Rattle.jh_cli.proofs.plan.plan_by.Goals as goal

pub returns-clause-asked : goal.returns-clause-asked
returns-clause-asked g c =
    let reply = reply_of c.in_ok-tell_plan.field-0 in
    read_last g.F.Files c.args.name.now c.args.files.now c.demands.new.files reply c.in_ok-demands.ensures.asked (planned_was_read c.args.name.now c.args.system.now c.as_slice.result.now reply c.in_ok-tell_plan.ensures)
