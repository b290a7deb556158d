-- The clashes of the cells so far with each later one.
use Rattle.jh_pins.proofs.ClashLemmas.{ContinuesAll}
use Rattle.jh_pins.proofs.table.PinTable.clashes.Given as goal

abbrev pub invariant-loop-index : goal.invariant-loop-index
invariant-loop-index l = ContinuesAll l.cells l.index l.clashes.items
