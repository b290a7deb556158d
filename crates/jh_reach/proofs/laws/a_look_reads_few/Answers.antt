-- Each page that is looked at costs its walk's reads, and none where it is cached.
use Rattle.std.proofs.Common.{is_some}
use Rattle.jh_walk.specs.Walks.{levels}
use Rattle.jh_reach.specs.Places.{given}
use Rattle.jh_reach.specs.Looks.{pages_in}
use Rattle.jh_reach.proofs.ReadLemmas.{reads_few}
use Rattle.jh_reach.proofs.laws.a_look_reads_few.Goals as goal

pub returns : goal.returns
returns c = λ s access. reads_few s (λ page. c.a_walk_reads_few.ensures s.word levels s.base.table page) (λ page. is_some (given s access.needs page)) (pages_in access)
