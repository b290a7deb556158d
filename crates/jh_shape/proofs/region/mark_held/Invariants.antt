-- What the regions so far cut is marked in the one list, and what they close in the other; and
-- what lies behind done cuts no more.
use Rattle.std.proofs.Common.{◌+◌, ◌*◌, ◌||◌, take}
use Rattle.std.specs.List.{list_any}
use Rattle.jh_num.specs.Levels.{slot_size}
use Rattle.jh_cellcfg.specs.declared.region.Region.{Region}
use Rattle.jh_shape.specs.declared.marks.TheConstants.{TABLE_SLOTS}
use Rattle.jh_shape.specs.Private.Marks.{is_marked, AreCutBehind, AreMarkedBelow}
use Rattle.jh_shape.specs.Shapes.{meets_in_part, takes}
use Rattle.jh_shape.proofs.region.mark_held.Given as goal

abbrev pub invariant-loop-region : goal.invariant-loop-region
invariant-loop-region l = record {
  cuts : AreMarkedBelow TABLE_SLOTS l.cuts l.level (λ n. is_marked l.initial.cuts n || list_any (λ (region : Region). meets_in_part region (l.base + n * slot_size l.level) (slot_size l.level)) (take l.region-index l.regions));
  closed : AreMarkedBelow TABLE_SLOTS l.closed l.level (λ n. is_marked l.initial.closed n || list_any (λ (region : Region). takes l.loadable region (l.base + n * slot_size l.level)) (take l.region-index l.regions));
  done : AreCutBehind l.cuts l.level l.base l.done.start l.done.end;
}
