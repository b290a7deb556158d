-- The lines read so far and what is left are the whole text, before each line and behind it.
use Rattle.jh_text.proofs.ReadLines.{begins, goes_on, ends, refused}
use Rattle.jh_text.proofs.laws.lines_tell_the_text.Goals as goal

pub returns-clause-begins : goal.returns-clause-begins
returns-clause-begins c = begins

pub returns-clause-goes_on : goal.returns-clause-goes_on
returns-clause-goes_on c = goes_on

pub returns-clause-ends : goal.returns-clause-ends
returns-clause-ends c = ends

pub returns-clause-refused : goal.returns-clause-refused
returns-clause-refused c = refused
