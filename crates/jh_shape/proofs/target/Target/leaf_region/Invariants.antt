-- A search of the regions left finds what a search of all regions does.
use Rattle.std.proofs.Common.{◌≡◌, drop}
use Rattle.std.specs.List.{find}
use Rattle.jh_cellcfg.specs.declared.region.Region.{Region}
use Rattle.jh_shape.specs.Claims.{claims_of}
use Rattle.jh_shape.specs.Shapes.{is_leaf_by}
use Rattle.jh_shape.proofs.target.Target.leaf_region.Given as goal

abbrev pub invariant-loop-region : goal.invariant-loop-region
invariant-loop-region l =
    find (λ (region : Region). is_leaf_by (claims_of l.self) l.level l.start region) (drop l.region-index l.self.regions.now)
    ≡ find (λ (region : Region). is_leaf_by (claims_of l.self) l.level l.start region) l.self.regions.now
