-- Other words are other bytes.
use Rattle.std.proofs.Common.{◌+◌, arith}
use Rattle.jh_frames.specs.Memory.{byte_at}
use Rattle.jh_frames.proofs.WordLemmas.{word_alike}
use Rattle.jh_frames.proofs.frames.Frames.set_word.Goals as goal

pub returns-clause-words_below : goal.returns-clause-words_below
returns-clause-words_below c = λ q le. word_alike (byte_at c.args.self.now) (byte_at c.set_bytes.new.self) q (λ k lt. c.set_bytes.ensures.below (q + k) (omega arith))

pub returns-clause-words_above : goal.returns-clause-words_above
returns-clause-words_above c = λ q le. word_alike (byte_at c.args.self.now) (byte_at c.set_bytes.new.self) q (λ k lt. c.set_bytes.ensures.above (q + k) (omega arith))
