-- The preloads so far.
use Rattle.std.proofs.Common.{◌≡◌, take}
use Rattle.std.specs.Prelude.{fold}
use Rattle.jh_history.specs.Bytes.{preloaded}
use Rattle.jh_history.proofs.written.preloads_byte.Given as goal

abbrev pub invariant-loop-preload : goal.invariant-loop-preload
invariant-loop-preload l = l.byte ≡ fold preloaded (λ _. 0) (take l.preload-index l.preload-items) l.place
