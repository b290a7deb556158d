-- A word is read from a list of eight bytes, which is the same list.
use Rattle.jh_frames.proofs.WordLemmas.{word_alike}
use Rattle.jh_frames.proofs.laws.equal_bytes_make_equal_words.Goals as goal

pub returns : goal.returns
returns c = λ byte other at same. word_alike byte other at same
