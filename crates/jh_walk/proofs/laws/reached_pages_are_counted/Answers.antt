-- Each page's sum is turned into one of each slot, and so on at each level below.
use Rattle.jh_walk.proofs.ListedLemmas.{listed_count}
use Rattle.jh_walk.proofs.laws.reached_pages_are_counted.Goals as goal

pub returns : goal.returns
returns c = λ word n table pages apart all. listed_count word n table pages apart all
