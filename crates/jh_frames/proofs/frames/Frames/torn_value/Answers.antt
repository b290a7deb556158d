-- The bytes read one by one.
use Rattle.std.proofs.Common.{arith, ◌∙◌}
use Rattle.jh_frames.proofs.MemoryLemmas.{torn_value}
use Rattle.jh_frames.proofs.frames.Frames.torn_value.Goals as goal

pub returns-clause-value : goal.returns-clause-value
returns-clause-value c = c.spelled.ensures.value ∙ torn_value c.args.self.now c.loop-k.bytes c.args.at c.args.width (omega arith) (λ j lt. c.loop-k.invariant.read j (omega arith))
