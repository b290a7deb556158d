-- Its kind takes as many turns off as the edit does, and what was done stays done.
use Rattle.jh_edit.specs.Tables.{words}
use Rattle.jh_edit.proofs.MovePlanLemmas.{turn_plan}
use Rattle.jh_edit.proofs.turns.turns_keep_the_plan.Goals as goal

pub returns : goal.returns
returns c = λ frames frames' old new want move tables is plans over.
    turn_plan old new want (words frames) (words frames') move (record { once = tables.once; aligned = tables.aligned }) is plans over
