-- The CPUs of an admitted board: there are some, and they differ.
use Rattle.std.proofs.Common.{ℕ, List, refl}
use Rattle.jh_history.specs.Items.{cpus_of}
use Rattle.jh_check.specs.Clean.{IsSoundBitmap, IsSoundCpuSet}
use Rattle.jh_run.proofs.CallerLemmas.{some_contained, differ_rising}
use Rattle.jh_run.proofs.runs.callers_of_board.Goals as goal

pub returns-clause-some : goal.returns-clause-some
returns-clause-some c =
    let image = c.args.image.now in
    let set : List ℕ = image.system.root.cpu_set in
    let gives : IsSoundBitmap set → IsSoundCpuSet set = rw (← c.as_slice.ensures.value) c.sound_bitmaps_name_few_cpus.ensures in
    let clean = c.nothing_is_found_in_what_is_clean.ensures.0 c.requires.system.clean in
    let one = (gives (clean.cpus 0 image.system.root refl)).some in
    let there = (c.rounds_are_of_the_boards_cpus.ensures.each image one.0 c.requires).0 one.1 in
    rw c.in_ok-callers.ensures.cpus (some_contained (cpus_of image) one.0 there)

pub returns-clause-differ : goal.returns-clause-differ
returns-clause-differ c = rw c.in_ok-callers.ensures.cpus (differ_rising (cpus_of c.args.image.now) (c.rounds_are_of_the_boards_cpus.ensures.rising c.args.image.now))
