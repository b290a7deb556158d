-- What is written so far is the header, and the lines of the entries so far.
use Rattle.std.proofs.Common.{◌≡◌, take}
use Rattle.jh_text.specs.Text.{journal_text}
use Rattle.jh_text.proofs.print.print_journal.Given as goal

abbrev pub invariant-loop-entry : goal.invariant-loop-entry
invariant-loop-entry l = l.text.items ≡ journal_text l.fn.journal.form (take l.entry-index l.entry-items)
