-- Each turn goes one level down.
use Rattle.jh_walk.proofs.walking.+walk_from.Given as goal

-- the levels that are left
abbrev pub decreases-walk_from : goal.decreases-walk_from
decreases-walk_from l = l.left
