-- What the regions so far meet is marked, each new mark is counted, and the span done has no gap.
use Rattle.std.proofs.Common.{◌≡◌, ◌+◌, ◌*◌, ◌/◌, ◌≤◌, ◌||◌, take}
use Rattle.std.specs.List.{list_any}
use Rattle.jh_shape.specs.declared.marks.TheConstants.{WINDOW}
use Rattle.jh_cellcfg.specs.declared.region.Region.{Region}
use Rattle.jh_shape.specs.Private.Marks.{is_marked, marked_slots, AreMarked, AreMarkedWithin}
use Rattle.jh_shape.specs.Shapes.{is_met_by}
use Rattle.jh_num.specs.Levels.{slot_size}
use Rattle.jh_shape.proofs.target.Target.add_met.Given as goal

abbrev pub invariant-loop-region : goal.invariant-loop-region
invariant-loop-region l =
    AreMarked l.words l.level (λ n. is_marked l.initial.words n || list_any (λ (region : Region). is_met_by l.level (l.base + n * slot_size l.level) region) (take l.region-index l.self.regions.now))
    × (marked_slots l.words l.level ≡ marked_slots l.initial.words l.level + l.more)
    × (l.more ≤ 262144)
    × AreMarkedWithin l.base (WINDOW / slot_size l.level) l.words l.level l.done.start l.done.end
