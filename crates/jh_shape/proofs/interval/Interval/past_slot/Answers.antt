-- The end is capped, and rounds up to no more slots than there are below the end of addresses.
use Rattle.std.proofs.Common.{refl, arith}
use Rattle.jh_shape.proofs.MarkLemmas.{slots_few, slots_within}
use Rattle.jh_shape.proofs.interval.Interval.past_slot.Goals as goal

pub returns-clause-value : goal.returns-clause-value
returns-clause-value c = rw (c.slot_of.ensures, c.slot_size.ensures, c.capped.ensures) refl

pub returns-clause-within : goal.returns-clause-within
returns-clause-within c =
    rw (c.slot_of.ensures, c.slot_size.ensures)
    (slots_within c.args.level c.capped.result c.requires (let e = c.capped.ensures in omega arith))

pub returns-clause-bound : goal.returns-clause-bound
returns-clause-bound c =
    rw (c.slot_of.ensures, c.slot_size.ensures)
    (slots_few c.args.level c.capped.result c.requires (let e = c.capped.ensures in omega arith))
