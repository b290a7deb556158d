-- One more behind a thousand findings isn't among the first thousand.
use Rattle.std.proofs.Common.{[], ◌∷◌, arith}
use Rattle.jh_check.proofs.ListLemmas.{capped_full}
use Rattle.jh_check.proofs.search.push.Goals as goal

pub returns-then-len-ge-MAX_FINDINGS : goal.returns-then-len-ge-MAX_FINDINGS
returns-then-len-ge-MAX_FINDINGS c = capped_full c.args.found.now (c.args.finding ∷ []) (omega arith)
