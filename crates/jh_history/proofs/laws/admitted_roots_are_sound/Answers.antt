-- The check finds nothing in root alone.
use Rattle.std.proofs.Common.{refl, [], List, ℕ}
use Rattle.jh_check.specs.Clean.{IsSoundBitmap, IsSoundCpuSet}
use Rattle.jh_check.proofs.Public.{clean_from_nothing}
use Rattle.jh_history.proofs.AdmittedLemmas.{sound_root}
use Rattle.jh_history.proofs.laws.admitted_roots_are_sound.Goals as goal

pub returns-clause-root : goal.returns-clause-root
returns-clause-root c = sound_root c.args.image.now

pub returns-clause-cpus : goal.returns-clause-cpus
returns-clause-cpus c = λ admitted.
    let system = c.args.image.now.system in
    let set : List ℕ = system.root.cpu_set in
    let gives : IsSoundBitmap set → IsSoundCpuSet set = rw (← c.as_slice.ensures.value) c.sound_bitmaps_name_few_cpus.ensures in
    (gives ((clean_from_nothing system [] admitted.system.clean).cpus 0 system.root refl)).few
