-- Part by part.
use Rattle.jh_desc.proofs.WordLemmas.{written_reads}
use Rattle.jh_desc.proofs.laws.what_is_written_is_read.Goals as goal

pub returns-clause-read : goal.returns-clause-read
returns-clause-read c = written_reads
