-- A holder adds the slots that its regions meet in part, and a cell that doesn't hold adds none.
use Rattle.std.proofs.Common.{◌≡◌, ◌+◌, ◌*◌, ◌||◌, true, false, sym, ap, ◌∙◌}
use Rattle.std.specs.List.{list_any}
use Rattle.jh_cellcfg.specs.declared.region.Region.{Region}
use Rattle.jh_num.specs.Bits.{has_bit}
use Rattle.jh_shape.specs.Private.Marks.{is_marked}
use Rattle.jh_shape.specs.Shapes.{meets_in_part}
use Rattle.jh_num.specs.Levels.{slot_size}
use Rattle.jh_shape.proofs.HoldersLemmas.{cut_more, cut_same}
use Rattle.jh_shape.proofs.target.Target.fill_cuts.Goals as goal
use Rattle.jh_shape.proofs.target.Target.fill_cuts.Goals.{then-has_bit, else-has_bit}

pub loop-i-init : goal.loop-i-init
loop-i-init c = λ n low below. c.requires.clear n

pub loop-i-preserved : goal.loop-i-preserved
loop-i-preserved c = λ n low below.
    let target = c.args.self.now in
    let size = slot_size c.args.level in
    elim c.if-has_bit.branch [
      | then-has_bit w ↦
          let bit : has_bit target.held c.loop-i.i ≡ true = ap (λ mask. has_bit mask c.loop-i.i) (sym c.from.ensures) ∙ sym c.has_bit.ensures ∙ w.if-has_bit.true in
          ap (λ ws. is_marked ws n) w.words-is
          ∙ w.mark_cuts.ensures n low below
          ∙ ap (λ rs. is_marked c.loop-i.words n || list_any (λ (region : Region). meets_in_part region (c.args.base + n * size) size) rs) w.as_slice.ensures.value
          ∙ ap (λ b. b || list_any (λ (region : Region). meets_in_part region (c.args.base + n * size) size) c.cell-item.result.memory_regions) (c.loop-i.invariant n low below)
          ∙ sym (cut_more target.held target.loadable target.cells.now c.loop-i.i c.cell-item.result (c.args.base + n * size) size c.loop-i-test.true c.cell-item.is bit)
      | else-has_bit w ↦
          let bit : has_bit target.held c.loop-i.i ≡ false = ap (λ mask. has_bit mask c.loop-i.i) (sym c.from.ensures) ∙ sym c.has_bit.ensures ∙ w.if-has_bit.false in
          ap (λ ws. is_marked ws n) w.words-is
          ∙ c.loop-i.invariant n low below
          ∙ sym (cut_same target.held target.loadable target.cells.now c.loop-i.i c.cell-item.result (c.args.base + n * size) size c.loop-i-test.true c.cell-item.is bit)
    ]
