-- Begun at zero, the digits make one by one the value that they write together.
use Rattle.jh_script.proofs.NumberLemmas.{value_is}
use Rattle.jh_script.proofs.number.read_digits.Goals as goal

pub loop-byte-init : goal.loop-byte-init
loop-byte-init c = value_is c.args.base c.args.digits.now c.requires.low
