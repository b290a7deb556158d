-- By the laws of journals, and of texts.
use Rattle.jh_text.specs.Text.{journal_text}
use Rattle.jh_run.proofs.LegalTexts.{JournalLaws, readable, readable_text, no_fault}
use Rattle.jh_run.proofs.laws.legal_journals_are_readable.Goals as goal

laws_of : goal.After-one_answer → JournalLaws
laws_of c = record {
  cpu = c.numbers_keep_to_their_types.ensures.cpu;
  cell = c.numbers_keep_to_their_types.ensures.cell;
  told = c.numbers_keep_to_their_types.ensures.told;
  operation = c.entries_are_their_cpus_own.ensures.operation;
}

pub returns-clause-entries : goal.returns-clause-entries
returns-clause-entries c = λ admitted form entries legal. readable (laws_of c) c.args.image.now form admitted c.numbers_are_typed.ensures entries legal

pub returns-clause-text : goal.returns-clause-text
returns-clause-text c = λ admitted form entries legal within. readable_text (laws_of c) c.texts_go_both_ways.ensures.printed c.args.image.now form admitted c.numbers_are_typed.ensures entries legal within

pub returns-clause-read : goal.returns-clause-read
returns-clause-read c = λ admitted form entries legal within other found is.
    let text = journal_text form entries in
    let own = readable_text (laws_of c) c.texts_go_both_ways.ensures.printed c.args.image.now form admitted c.numbers_are_typed.ensures entries legal within in
    let texts = c.texts_go_both_ways.ensures in (texts.form text other form found entries is own, texts.one text other form found entries is own)

pub returns-clause-faultless : goal.returns-clause-faultless
returns-clause-faultless c = λ admitted form entries legal within fault is.
    no_fault (journal_text form entries) form entries fault
    (λ number good bad. c.one_answer.ensures.good_or_bad (journal_text form entries) form entries number good bad)
    (λ good long. c.one_answer.ensures.good_or_long (journal_text form entries) form entries good long)
    (readable_text (laws_of c) c.texts_go_both_ways.ensures.printed c.args.image.now form admitted c.numbers_are_typed.ensures entries legal within)
    is
