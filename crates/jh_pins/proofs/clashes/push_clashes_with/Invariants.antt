-- The clashes with the cells so far.
use Rattle.jh_pins.proofs.ClashLemmas.{Continues}
use Rattle.jh_pins.proofs.clashes.push_clashes_with.Given as goal

abbrev pub invariant-loop-other : goal.invariant-loop-other
invariant-loop-other l = Continues l.one l.others l.other-index l.fn.clashes.items l.clashes.items
