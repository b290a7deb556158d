-- The lowest set bit of a byte names a CPU, and a byte that is zero names none.
use Rattle.std.proofs.Common.{◌<◌, get_or, arith}
use Rattle.jh_check.proofs.GivenLemmas.{sound_set}
use Rattle.jh_check.proofs.laws.sound_bitmaps_name_few_cpus.Goals as goal

pub returns : goal.returns
returns c =
    sound_set c.args._set.now (λ i.
    let fits = c.type_inv._set i in
    let small : get_or c.args._set.now i 0 < 256 = omega arith in
    small)
