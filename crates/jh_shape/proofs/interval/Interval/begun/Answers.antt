-- Both ends are rounded up, so that the slots between begin in the interval.
use Rattle.jh_shape.specs.declared.marks.TheConstants.{WINDOW}
use Rattle.jh_shape.proofs.LawLemmas.{size_some}
use Rattle.jh_shape.proofs.MarkLemmas.{begun_slots}
use Rattle.jh_shape.proofs.interval.Interval.begun.Goals as goal

pub returns : goal.returns
returns c = λ n below.
    rw (c.slot_of-from.ensures, c.slot_of-to.ensures, c.slot_size.ensures, c.slot_size-2.ensures, c.capped.ensures, c.capped-2.ensures)
    (begun_slots c.args.self.now.start c.args.self.now.end _ n WINDOW (size_some c.args.level) below)
