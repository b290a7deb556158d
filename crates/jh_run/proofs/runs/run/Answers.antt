-- The board that was closed is the one that was opened.
use Rattle.jh_history.specs.declared.form.Form.TheVariants.{Two}
use Rattle.jh_turn.specs.Ports.{opened_value}
use Rattle.jh_turn.proofs.Public.{all_still}
use Rattle.jh_run.specs.Running.{origin_of}
use Rattle.jh_run.proofs.WholeLemmas.{quiet_of, full_of}
use Rattle.jh_run.proofs.runs.run.Goals as goal

pub returns-clause-quiet : goal.returns-clause-quiet
returns-clause-quiet g c = quiet_of (origin_of (opened_value c.in_ok-shared.shared)) (record { image = c.args.image; limit = c.args.limit; form = Two }) c.end_run.result c.in_ok-shared.ensures.origin c.end_run.ensures.quiet

pub returns-clause-full : goal.returns-clause-full
returns-clause-full g c = full_of (origin_of (opened_value c.in_ok-shared.shared)) (record { image = c.args.image; limit = c.args.limit; form = Two }) c.end_run.result c.in_ok-shared.ensures.origin c.end_run.ensures.full

pub end_run-requires-clause-ports : goal.end_run-requires-clause-ports
end_run-requires-clause-ports g c = all_still c.in_ok-shared.shared c.in_ok-shared.ports.items c.in_ok-driven.driven.ports.items c.in_ok-shared.ensures.ports c.in_ok-driven.ensures.same
