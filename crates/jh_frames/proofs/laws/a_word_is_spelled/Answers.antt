-- The eight bytes are written out, and both ways to read them give one sum.
use Rattle.jh_frames.proofs.WordLemmas.{word_spelled}
use Rattle.jh_frames.proofs.laws.a_word_is_spelled.Goals as goal

pub returns : goal.returns
returns c = λ byte at. word_spelled byte at
