-- The bitmap is of bytes, so each of its numbers is below 256.
use Rattle.std.proofs.Common.{◌<◌, get_or, arith}
use Rattle.jh_check.proofs.devices.names_high.Goals as goal

pub returns-clause-bytes : goal.returns-clause-bytes
returns-clause-bytes c = λ i.
    let fits = c.type_inv.set i in
    let small : get_or c.args.set.now i 0 < 256 = omega arith in
    small
