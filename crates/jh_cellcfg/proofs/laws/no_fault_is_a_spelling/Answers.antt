-- Bytes without a fault start as they must, and behind the start a configuration is found.
use Rattle.jh_cellcfg.proofs.SpelledCells.{bytes_found}
use Rattle.jh_cellcfg.proofs.laws.no_fault_is_a_spelling.Goals as goal

pub returns : goal.returns
returns c = bytes_found
