-- A region that has no place in the table cuts and closes none of its slots.
use Rattle.std.proofs.Common.{◌≡◌, ◌+◌, ◌*◌, false, sym, ◌∙◌}
use Rattle.jh_cellcfg.specs.Regions.{phys_end}
use Rattle.jh_num.specs.Levels.{slot_size}
use Rattle.jh_shape.specs.Intervals.{touches}
use Rattle.jh_shape.specs.Private.Marks.{is_marked}
use Rattle.jh_shape.specs.Shapes.{meets_in_part, takes}
use Rattle.jh_shape.proofs.HeldLemmas.{closes_nothing, cuts_nothing, no_more}
use Rattle.jh_shape.proofs.LawLemmas.{size_some}
use Rattle.jh_shape.proofs.region.mark_held_by.Goals as goal

pub returns-then-not-meets_table-clause-cuts : goal.returns-then-not-meets_table-clause-cuts
returns-then-not-meets_table-clause-cuts c = λ n few below.
    let size = slot_size c.args.level in
    let region = c.args.region.now in
    let none : touches region.phys_start (phys_end region) c.args.base (512 * size) ≡ false = sym c.meets_table.ensures ∙ c.if-not-meets_table.true in
    no_more (is_marked c.args.cuts.now n) (meets_in_part region (c.args.base + n * size) size) (cuts_nothing region c.args.base n size few none)

pub returns-then-not-meets_table-clause-closed : goal.returns-then-not-meets_table-clause-closed
returns-then-not-meets_table-clause-closed c = λ n few below.
    let size = slot_size c.args.level in
    let region = c.args.region.now in
    let none : touches region.phys_start (phys_end region) c.args.base (512 * size) ≡ false = sym c.meets_table.ensures ∙ c.if-not-meets_table.true in
    no_more (is_marked c.args.closed.now n) (takes c.args.loadable region (c.args.base + n * size)) (closes_nothing c.args.loadable region c.args.base n size (size_some c.args.level) few none)
