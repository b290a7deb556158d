-- The closed places so far aren't free.
use Rattle.std.proofs.Common.{◌≡◌, ℕ, ◌<◌, not, take}
use Rattle.jh_num.specs.declared.address.TheConstants.{ADDRESS_END}
use Rattle.jh_num.specs.Bytes.{has_byte}
use Rattle.jh_map.proofs.map.free_places.Given as goal

abbrev pub invariant-loop-places : goal.invariant-loop-places
invariant-loop-places l = (place : ℕ) → place < ADDRESS_END → has_byte l.free.ranges place ≡ not (has_byte (take l.places-index l.places-items) place)
