-- What items have reached.
use Rattle.std.proofs.Common.{List, Bool}
use Rattle.jh_history.specs.declared.entry.Entry.{Entry}
use Rattle.jh_history.specs.Items.{Reached}

abbrev pub reached : List Entry → Bool → Reached
reached entries full = record { entries = entries; full = full }
