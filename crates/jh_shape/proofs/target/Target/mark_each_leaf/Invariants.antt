-- Besides the old marks, the slots so far are marked that aren't cut for root.
use Rattle.std.proofs.Common.{◌≡◌, ℕ, ◌+◌, ◌*◌, ◌≤◌, ◌&&◌, ◌||◌, not, max}
use Rattle.jh_shape.specs.Claims.{claims_of}
use Rattle.jh_shape.specs.Private.Marks.{is_marked}
use Rattle.jh_shape.specs.Shapes.{is_cut_for_root}
use Rattle.jh_num.specs.Levels.{slot_size}
use Rattle.jh_shape.proofs.MarkLemmas.{is_from}
use Rattle.jh_shape.proofs.target.Target.mark_each_leaf.Given as goal

abbrev pub invariant-loop-n : goal.invariant-loop-n
invariant-loop-n l =
    (l.n ≤ max l.initial.n l.n-end)
    × ((k : ℕ) → is_marked l.words k ≡ (is_marked l.initial.words k || (is_from l.initial.n l.n k && not (is_cut_for_root (claims_of l.self) l.level (l.base + k * slot_size l.level) l.region))))
