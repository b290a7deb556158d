-- The configuration's header is the one that was read, and its parts' bytes stand behind it.
use Rattle.std.proofs.Common.{sym, ◌∙◌, ◌++◌}
use Rattle.jh_cellcfg.specs.Spelling.{header_bytes}
use Rattle.jh_cellcfg.proofs.read.read_body.Goals as goal

pub returns-clause-spelled : goal.returns-clause-spelled
returns-clause-spelled c = c.header_at.ensures.taken ∙ (λ i. header_bytes (sym c.in_ok-read_parts.ensures.header i) ++ c.in_ok-read_parts.ensures.parts i)
