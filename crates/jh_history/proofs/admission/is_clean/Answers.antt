-- The first thousand findings are none exactly where there is none.
use Rattle.std.proofs.Common.{sym, ◌∙◌, []}
use Rattle.jh_check.specs.Findings.{findings}
use Rattle.jh_check.proofs.Public.{capped_none, capped_nil}
use Rattle.jh_history.proofs.admission.is_clean.Goals as goal

pub returns : goal.returns
returns c =
    let all = findings c.args.system.now [] in
    (λ t. capped_none all (sym c.in_ok-found.ensures ∙ c.is_empty.ensures.0 t), λ e. c.is_empty.ensures.1 (c.in_ok-found.ensures ∙ capped_nil all e))
