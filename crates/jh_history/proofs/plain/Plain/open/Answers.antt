-- At opening no cell lives besides root.
use Rattle.std.proofs.Common.{arith}
use Rattle.jh_history.proofs.plain.Plain.open.Goals as goal

pub invariant_of-result : goal.invariant_of-result
invariant_of-result c =
    rw c.new-2.ensures (record { admitted = c.requires; sound = (c.legal_journals_are_sound.ensures.start c.args.image.now c.args.form c.requires).cells; few = omega arith })
