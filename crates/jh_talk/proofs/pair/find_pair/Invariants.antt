-- None of root's devices so far is in a pair.
use Rattle.jh_talk.proofs.PairLemmas.{NonePairedBelow}
use Rattle.jh_talk.proofs.pair.find_pair.Given as goal

abbrev pub invariant-loop-number : goal.invariant-loop-number
invariant-loop-number l = NonePairedBelow l.root l.cell l.number
