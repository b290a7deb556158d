-- Regions end below the end and share no address, and what other cells hold of root's pages is whole pages.
use Rattle.jh_life.proofs.SoundLemmas.{cell_sound, root_sound}
use Rattle.jh_life.proofs.laws.live_claims_are_sound.Goals as goal

pub returns : goal.returns
returns c = record { root = root_sound; cells = cell_sound }
