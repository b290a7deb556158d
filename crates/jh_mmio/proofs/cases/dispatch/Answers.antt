-- The first region that takes the access answers, or what is behind the regions.
use Rattle.std.proofs.Common.{◌∙◌}
use Rattle.jh_mmio.proofs.HittingLemmas.{hitting_first, hitting_no_bytes}
use Rattle.jh_mmio.proofs.cases.dispatch.Goals as goal

pub returns-then-width-eq0 : goal.returns-then-width-eq0
returns-then-width-eq0 c = hitting_no_bytes _ _ _ _ _ _ _ c.if-width-eq0.true

pub returns : goal.returns
returns c = c.by_first.ensures ∙ hitting_first _ _ _ _ _ _ _ _ c.first_subpage-first.ensures
