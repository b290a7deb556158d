-- The reads before the loop's place are told.
use Rattle.std.proofs.Common.{◌≡◌, take}
use Rattle.jh_walk.specs.Walks.{all_counted}
use Rattle.jh_reach.proofs.filling.tell.Given as goal

abbrev pub invariant-loop-probe : goal.invariant-loop-probe
invariant-loop-probe l = l.steps ≡ all_counted l.initial.steps (take l.probe-index l.probe-items)
