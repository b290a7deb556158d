-- What is left of the regions gives the place.
use Rattle.std.proofs.Common.{◌≡◌, drop}
use Rattle.std.specs.Prelude.{find}
use Rattle.jh_history.specs.Access.{gives}
use Rattle.jh_history.proofs.cells.region_of.Given as goal

abbrev pub invariant-loop-region : goal.invariant-loop-region
invariant-loop-region l = find (gives l.access l.at) (drop l.region-index l.regions) ≡ find (gives l.access l.at) l.regions
