-- A journal's text is what is printed of it, and is so of one journal alone.
use Rattle.std.proofs.Common.{sym}
use Rattle.jh_text.proofs.Headers.{printed, one_text, one_form}
use Rattle.jh_text.proofs.laws.texts_go_both_ways.Goals as goal

pub returns-clause-printed : goal.returns-clause-printed
returns-clause-printed c = printed

pub returns-clause-one : goal.returns-clause-one
returns-clause-one c = one_text

pub returns-clause-form : goal.returns-clause-form
returns-clause-form c = one_form

pub returns-clause-read : goal.returns-clause-read
returns-clause-read c = λ text form entries journal. sym journal.whole
