-- Each call goes one level down.
use Rattle.jh_edit.proofs.finding.+deepest.Given as goal

abbrev pub decreases-deepest : goal.decreases-deepest
decreases-deepest l = l.link.below
