-- Root has the number 0 and no communication region, so that each of its places is single.
use Rattle.jh_check.proofs.GivenLemmas.{sound_root_holds}
use Rattle.jh_check.proofs.laws.clean_root_is_sound.Goals as goal

pub returns : goal.returns
returns c = sound_root_holds c.args._system.now c.args._cells.now
