-- By the phase that is waited in, over the rest.
use Rattle.jh_laws.proofs.WaitLemmas.{settle_waits, note_waits}
use Rattle.jh_laws.proofs.calls.waits_count_the_cells_entries.Goals as goal

pub returns-clause-settle : goal.returns-clause-settle
returns-clause-settle c = λ m id asked rests. settle_waits m id asked rests

pub returns-clause-note : goal.returns-clause-note
returns-clause-note c = λ m id act rests. note_waits m id act rests
