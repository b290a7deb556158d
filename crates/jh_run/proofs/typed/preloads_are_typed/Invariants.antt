-- Those so far are as their type has them.
use Rattle.std.specs.List.{AllWithin}
use Rattle.jh_script.specs.declared.image.Preload.{Preload}
use Rattle.jh_history.specs.Sound.{AreBytes}
use Rattle.jh_run.proofs.typed.preloads_are_typed.Given as goal

abbrev pub invariant-loop-preload : goal.invariant-loop-preload
invariant-loop-preload l = AllWithin (λ (p : Preload). AreBytes p.bytes) l.preloads 0 l.preload-index
