-- The four bytes, and each number by computing.
use Rattle.jh_laws.proofs.PlaceWordLemmas.{state_number, reply_number, down_is}
use Rattle.jh_laws.proofs.words.words_have_their_places.Goals as goal

pub returns-clause-state : goal.returns-clause-state
returns-clause-state c = λ f id. state_number f id

pub returns-clause-reply : goal.returns-clause-reply
returns-clause-reply c = λ f id. reply_number f id

pub returns-clause-down : goal.returns-clause-down
returns-clause-down c = λ state. down_is state
