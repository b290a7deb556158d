-- The list stays as it is on its way through a vector, but for the cut at a thousand findings.
use Rattle.std.proofs.Common.{◌≡◌, take, ◌∙◌}
use Rattle.jh_check.specs.declared.checking.TheConstants.{MAX_FINDINGS}
use Rattle.jh_check.specs.Lists.{capped}
use Rattle.jh_check.specs.Findings.{findings}
use Rattle.jh_check.proofs.checking.check.Goals as goal

pub returns : goal.returns
unfolding capped findings
returns c =
    let a = c.from_vec.ensures in
    let b = c.truncate.ensures.items in
    let d = c.into_vec-first.ensures in
    let first : c.from_vec.result ≡ take MAX_FINDINGS c.in_ok-found.found = cc in
    first ∙ c.in_ok-found.ensures
