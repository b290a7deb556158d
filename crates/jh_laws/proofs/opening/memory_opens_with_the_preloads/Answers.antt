-- By the list of preloads, which are apart, and the words of root's devices.
use Rattle.jh_laws.proofs.ByteLemmas.{opening_page}
use Rattle.jh_laws.proofs.OpeningLemmas.{opens_words, opens_put, opens_zero}
use Rattle.jh_laws.proofs.opening.memory_opens_with_the_preloads.Goals as goal

pub returns-clause-words : goal.returns-clause-words
returns-clause-words c = opens_words

pub returns-clause-put : goal.returns-clause-put
returns-clause-put c = opens_put

pub returns-clause-zero : goal.returns-clause-zero
returns-clause-zero c = opens_zero

pub returns-clause-pages : goal.returns-clause-pages
returns-clause-pages c = opening_page
