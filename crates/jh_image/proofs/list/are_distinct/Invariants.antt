-- No program so far has a later one of its CPU.
use Rattle.std.proofs.Common.{◌≡◌, map, drop}
use Rattle.jh_image.specs.Boards.{are_distinct, named_cpu_of}
use Rattle.jh_image.proofs.list.are_distinct.Given as goal

abbrev pub invariant-loop-i : goal.invariant-loop-i
invariant-loop-i l = are_distinct (map named_cpu_of (drop l.i l.files)) ≡ are_distinct (map named_cpu_of l.files)
