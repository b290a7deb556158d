-- A run of each range so far.
use Rattle.std.proofs.Common.{◌≡◌, map, take}
use Rattle.jh_map.specs.Private.Places.{run_to}
use Rattle.jh_map.proofs.map.runs_to_places.Given as goal

abbrev pub invariant-loop-places : goal.invariant-loop-places
invariant-loop-places l = l.runs.items ≡ map (run_to l.region) (take l.places-index l.left)
