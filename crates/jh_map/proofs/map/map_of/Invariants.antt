-- The map of the regions so far.
use Rattle.std.proofs.Common.{take}
use Rattle.jh_num.specs.Bytes.{has_byte}
use Rattle.jh_map.specs.Maps.{IsMap}
use Rattle.jh_map.proofs.map.map_of.Given as goal

abbrev pub invariant-loop-region : goal.invariant-loop-region
invariant-loop-region l = IsMap (has_byte l.fn.closed.ranges) (take l.region-index l.region-items) l.runs.items
