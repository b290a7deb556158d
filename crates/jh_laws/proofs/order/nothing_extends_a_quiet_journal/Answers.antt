-- The entry would be due.
use Rattle.std.proofs.Common.{sym, ◌∙◌}
use Rattle.std.proofs.lemmas.Option.{none-some}
use Rattle.jh_history.proofs.Public.{due_split}
use Rattle.jh_laws.proofs.order.nothing_extends_a_quiet_journal.Goals as goal

pub returns : goal.returns
returns c = λ image form before rest entry quiet legal. none-some entry (sym (quiet entry.cpu) ∙ due_split image form before rest entry legal)
