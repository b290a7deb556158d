-- Each part of a word lies below bit 55.
use Rattle.jh_desc.proofs.WordLemmas.{high_reads}
use Rattle.jh_desc.proofs.laws.other_bits_say_nothing.Goals as goal

pub returns : goal.returns
returns c = high_reads
