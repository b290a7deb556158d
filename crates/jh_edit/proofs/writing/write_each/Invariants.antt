-- The slots gone over are written, those ahead are as they were, and so are all bytes outside the page.
use Rattle.jh_edit.proofs.WritingLemmas.{IsWrittenTo}
use Rattle.jh_edit.proofs.writing.write_each.Given as goal

abbrev pub invariant-loop-slot : goal.invariant-loop-slot
invariant-loop-slot l = IsWrittenTo l.how l.level l.page l.wants l.fn.f l.f l.slot
