-- The file's bytes are no text of demands, and the call ends there.
use Rattle.jh_plan.specs.FaultText.{demands_fault_text}
use Rattle.jh_cli.specs.Lines.{refusal_line}
use Rattle.jh_cli.proofs.OrderLemmas.{refuses_one}
use Rattle.jh_cli.proofs.plan.demands.Goals as goal

pub returns-clause-asked_until : goal.returns-clause-asked_until
returns-clause-asked_until g c =
    refuses_one g.F.Files c.args.name.now (refusal_line c.args.name.now (demands_fault_text c.in-Err.fault)) c.args.files.now c.read_below.new.files c.undemanded.result c.in_ok-bytes.ensures.asked c.undemanded.ensures.told
