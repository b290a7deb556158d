-- The fault's text is refused.
use Rattle.std.specs.Prelude.{string_bytes}
use Rattle.jh_cli.proofs.StopLemmas.{refused_by}
use Rattle.jh_cli.proofs.ending.refused_for.Goals as goal

pub returns-in-Ok : goal.returns-in-Ok
returns-in-Ok g c =
    refused_by c.args.name.now (string_bytes c.in-Ok.words) (g.E.Display.output c.args.fault.now) c.in-Ok.ensures.ok c.refused.result
    (rw (c.as_bytes.ensures.value, c.as_bytes-in-Ok.ensures.value) at c.refused.ensures)
