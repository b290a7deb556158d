-- A slot of a window begins so low that neither the product nor the sum passes 64 bits.
use Rattle.std.proofs.Common.{arith}
use Rattle.jh_shape.proofs.MarkLemmas.{place_fits}
use Rattle.jh_shape.proofs.target.Target.is_cut.Goals as goal

pub overflow_mul-n : goal.overflow_mul-n
overflow_mul-n c = rw c.slot_size-size.ensures (let fits = place_fits c.args.level c.args.n c.requires.level (let few = c.requires.few in omega arith) in omega arith)

pub overflow_add-base : goal.overflow_add-base
overflow_add-base c = rw c.slot_size-size.ensures (let fits = place_fits c.args.level c.args.n c.requires.level (let few = c.requires.few in omega arith) in let low = c.requires.base in omega arith)
