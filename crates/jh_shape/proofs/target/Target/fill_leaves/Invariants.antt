-- The level's slots that the regions so far make leaves are marked, and no other of them.
use Rattle.std.proofs.Common.{◌+◌, ◌*◌, take}
use Rattle.std.specs.List.{list_any}
use Rattle.jh_cellcfg.specs.declared.region.Region.{Region}
use Rattle.jh_shape.specs.Claims.{claims_of}
use Rattle.jh_shape.specs.Private.Marks.{AreMarked}
use Rattle.jh_shape.specs.Shapes.{is_leaf_by}
use Rattle.jh_num.specs.Levels.{slot_size}
use Rattle.jh_shape.proofs.target.Target.fill_leaves.Given as goal

abbrev pub invariant-loop-region : goal.invariant-loop-region
invariant-loop-region l = AreMarked l.words l.level (λ n. list_any (λ (region : Region). is_leaf_by (claims_of l.self) l.level (l.base + n * slot_size l.level) region) (take l.region-index l.self.regions.now))
