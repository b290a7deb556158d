-- A holder is page-mapped, and has whole pages, or has no place of the page-mapped region.
use Rattle.jh_check.proofs.GivenLemmas.{whole_pages}
use Rattle.jh_check.proofs.laws.pages_are_whole.Goals as goal

pub returns : goal.returns
returns c = whole_pages c.args._system.now c.args._cells.now
