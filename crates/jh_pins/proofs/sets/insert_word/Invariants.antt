-- The pins of the bits that were set and are left out by now; each bit that is left was set.
use Rattle.jh_pins.proofs.WordLemmas.{PutIn}
use Rattle.jh_pins.proofs.sets.insert_word.Given as goal

abbrev pub invariant-loop-left : goal.invariant-loop-left
invariant-loop-left l = PutIn l.word l.left l.first l.fn.pins.ranges l.pins.ranges

abbrev pub decreases-loop-left : goal.decreases-loop-left
decreases-loop-left l = l.left
