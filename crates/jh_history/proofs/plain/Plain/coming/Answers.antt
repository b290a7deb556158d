-- Elsewhere nothing is read.
use Rattle.std.proofs.Common.{None}
use Rattle.jh_history.specs.History.{coming_of}
use Rattle.jh_history.proofs.PlainStepLemmas.{coming_elsewhere}
use Rattle.jh_history.proofs.plain.Plain.coming.Goals as goal

pub returns-in_default : goal.returns-in_default
returns-in_default c = λ i f h lives. coming_elsewhere lives None (coming_of i f) f.call c.args.entry.now c.in_default.not-Decide
