-- A byte of the bitmap has bit by bit what the list tells of its eight CPUs.
use Rattle.jh_spec.proofs.BitLaws.{size_law, bitmap_law}
use Rattle.jh_spec.proofs.laws.a_cpu_that_is_named_has_its_bit.Goals as goal

pub returns-clause-size : goal.returns-clause-size
returns-clause-size c = λ it. size_law it.value it.bytes it.cpus it.bitmap it.listed it.told

pub returns-clause-bits : goal.returns-clause-bits
returns-clause-bits c = λ it. bitmap_law it.value it.bytes it.cpus it.bitmap it.listed it.told
