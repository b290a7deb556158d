-- One byte more in front moves the others up a place, where each counts 256 times as much.
use Rattle.jh_num.proofs.MemoryLemmas.{spelled_little_endian}
use Rattle.jh_num.proofs.laws.the_lowest_byte_is_first.Goals as goal

pub returns : goal.returns
returns c = spelled_little_endian
