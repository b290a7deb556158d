-- Each device of the cells so far has its seat.
use Rattle.std.proofs.Common.{ℕ, ◌<◌, get_or}
use Rattle.jh_cellcfg.specs.declared.config.CellConfig.{CellConfig}
use Rattle.jh_check.specs.Private.Cells.{cells_of}
use Rattle.jh_check.specs.Private.Seats.{HasSeatsOf}
use Rattle.jh_check.proofs.seats.seats_of.Given as goal

abbrev pub invariant-loop-c : goal.invariant-loop-c
invariant-loop-c l =
    (k : ℕ) (d : CellConfig) → k < l.c → HasSeatsOf k (get_or (cells_of l.setup) k d).pci_devices l.seats.items
