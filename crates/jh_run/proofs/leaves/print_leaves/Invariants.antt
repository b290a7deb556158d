-- what is written so far are the lines of the leaves so far
use Rattle.std.proofs.Common.{◌≡◌, string_bytes, take}
use Rattle.std.specs.List.{flat_map}
use Rattle.jh_run.specs.Tables.{leaf_line}
use Rattle.jh_run.proofs.leaves.print_leaves.Given as goal

abbrev pub invariant-loop-leaf : goal.invariant-loop-leaf
invariant-loop-leaf l = string_bytes l.text ≡ flat_map leaf_line (take l.leaf-index l.leaves)
