-- Of two runs of lines behind a text's header the shorter begins the longer, and a bad line ends both.
use Rattle.jh_text.proofs.Headers.{text_not_bad, text_not_long, bad_not_long_text, one_bad_number}
use Rattle.jh_text.proofs.laws.one_answer.Goals as goal

pub returns-clause-good_or_bad : goal.returns-clause-good_or_bad
returns-clause-good_or_bad c = text_not_bad

pub returns-clause-good_or_long : goal.returns-clause-good_or_long
returns-clause-good_or_long c = text_not_long

pub returns-clause-bad_or_long : goal.returns-clause-bad_or_long
returns-clause-bad_or_long c = bad_not_long_text

pub returns-clause-one_line : goal.returns-clause-one_line
returns-clause-one_line c = one_bad_number
