-- Entry by entry.
use Rattle.jh_history.proofs.SoundLemmas.{sound_start, sound_after, legal_sound}
use Rattle.jh_history.proofs.sound.legal_journals_are_sound.Goals as goal

pub returns : goal.returns
returns c = record { start = sound_start; after = λ image f entry h. sound_after image f entry h.sound h.due; legal = λ image form entries admitted legal. legal_sound image form entries admitted legal }
