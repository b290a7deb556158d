-- No word has a space or a line feed, so a text gives back its words, and they their entry; the header begins with a word
-- that is no number.
use Rattle.jh_text.proofs.Headers.{typed_entries_same, typed_forms_same}
use Rattle.jh_text.proofs.TypedTexts.{typed_entries}
use Rattle.jh_text.proofs.laws.texts_differ.Goals as goal

pub returns-clause-entries : goal.returns-clause-entries
returns-clause-entries c = typed_entries

pub returns-clause-journals : goal.returns-clause-journals
returns-clause-journals c = typed_entries_same

pub returns-clause-forms : goal.returns-clause-forms
returns-clause-forms c = typed_forms_same
