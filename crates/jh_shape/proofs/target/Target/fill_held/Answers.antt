-- A holder adds what its regions cut and close, and a cell that doesn't hold adds nothing.
use Rattle.std.proofs.Common.{◌≡◌, ℕ, ◌+◌, ◌*◌, ◌||◌, Bool, true, false, ◌++◌, Option, sym, ap, ◌∙◌}
use Rattle.std.specs.Borrow.{Bor}
use Rattle.std.specs.List.{list_any}
use Rattle.jh_num.specs.Bits.{has_bit}
use Rattle.jh_num.specs.Levels.{slot_size}
use Rattle.jh_cellcfg.specs.declared.config.CellConfig.{CellConfig}
use Rattle.jh_cellcfg.specs.declared.region.Region.{Region}
use Rattle.jh_shape.specs.Claims.{Holder, held_from, holder_to_come}
use Rattle.jh_shape.specs.Private.Marks.{is_marked}
use Rattle.jh_shape.specs.Shapes.{meets_in_part, takes}
use Rattle.jh_shape.proofs.HeldLemmas.{held_end, held_more, held_same}
use Rattle.jh_shape.proofs.target.Target.fill_held.Goals as goal
use Rattle.jh_shape.proofs.target.Target.fill_held.Goals.{then-has_bit, else-has_bit}

-- what a holder cuts, and what it closes
abbrev cuts : ℕ → ℕ → Holder → Bool
cuts place size holder = list_any (λ (region : Region). meets_in_part region place size) holder.regions

abbrev closes : ℕ → Holder → Bool
closes place holder = list_any (λ (region : Region). takes holder.loadable region place) holder.regions

pub loop-i-preserved : goal.loop-i-preserved
loop-i-preserved c =
    let target = c.args.self.now in
    let cells = target.cells.now in
    let i = c.loop-i.i in
    let cell = c.cell-item.result in
    let size = slot_size c.args.level in
    let at : ℕ → ℕ = λ n. c.args.base + n * size in
    elim c.if-has_bit.branch [
      | then-has_bit w ↦
          let bit : has_bit target.held i ≡ true = ap (λ mask. has_bit mask i) (sym c.from.ensures) ∙ sym c.has_bit.ensures ∙ w.if-has_bit.true in
          let mark : w.has_bit-loadable.result ≡ has_bit target.loadable i = w.has_bit-loadable.ensures ∙ ap (λ mask. has_bit mask i) w.from-then-has_bit.ensures in
          record {
            cuts = λ n low below.
                ap (λ ws. is_marked ws n) w.cuts-is
                ∙ w.mark_held.ensures.cuts n low below
                ∙ ap (λ rs. is_marked c.loop-i.cuts n || list_any (λ (region : Region). meets_in_part region (at n) size) rs) w.as_slice-regions.ensures.value
                ∙ ap (λ b. b || list_any (λ (region : Region). meets_in_part region (at n) size) cell.memory_regions) (c.loop-i.invariant.cuts n low below)
                ∙ sym (held_more (cuts (at n) size) target.held target.loadable cells i cell c.loop-i-test.true c.cell-item.is bit);
            closed = λ n low below.
                ap (λ ws. is_marked ws n) w.closed-is
                ∙ w.mark_held.ensures.closed n low below
                ∙ ap (λ rs. is_marked c.loop-i.closed n || list_any (λ (region : Region). takes w.has_bit-loadable.result region (at n)) rs) w.as_slice-regions.ensures.value
                ∙ ap (λ (loadable : Bool). is_marked c.loop-i.closed n || list_any (λ (region : Region). takes loadable region (at n)) cell.memory_regions) mark
                ∙ ap (λ b. b || list_any (λ (region : Region). takes (has_bit target.loadable i) region (at n)) cell.memory_regions) (c.loop-i.invariant.closed n low below)
                ∙ sym (held_more (closes (at n)) target.held target.loadable cells i cell c.loop-i-test.true c.cell-item.is bit);
          }
      | else-has_bit w ↦
          let bit : has_bit target.held i ≡ false = ap (λ mask. has_bit mask i) (sym c.from.ensures) ∙ sym c.has_bit.ensures ∙ w.if-has_bit.false in
          record {
            cuts = λ n low below.
                ap (λ ws. is_marked ws n) w.cuts-is
                ∙ c.loop-i.invariant.cuts n low below
                ∙ sym (held_same (cuts (at n) size) target.held target.loadable cells i cell c.loop-i-test.true c.cell-item.is bit);
            closed = λ n low below.
                ap (λ ws. is_marked ws n) w.closed-is
                ∙ c.loop-i.invariant.closed n low below
                ∙ sym (held_same (closes (at n)) target.held target.loadable cells i cell c.loop-i-test.true c.cell-item.is bit);
          }
    ]

pub returns-in-Some-clause-cuts : goal.returns-in-Some-clause-cuts
returns-in-Some-clause-cuts c = λ n low below.
    let target = c.args.self.now in
    let size = slot_size c.args.level in
    let at = c.args.base + n * size in
    held_end (cuts at size) target.held target.loadable target.cells.now c.loop-i.i c.in-Some.cell.now (is_marked c.loop-i.cuts n) _ c.loop-i-test.false (c.loop-i.invariant.cuts n low below)
    (c.mark_held-in-Some.ensures.cuts n low below
    ∙ ap (λ rs. is_marked c.loop-i.cuts n || list_any (λ (region : Region). meets_in_part region at size) rs) c.as_slice.ensures.value)
    ∙ ap (λ (extra : Option (Bor CellConfig)). list_any (cuts at size) (held_from target.held target.loadable 0 target.cells.now ++ holder_to_come extra)) (sym c.in-Some.is)

pub returns-in-Some-clause-closed : goal.returns-in-Some-clause-closed
returns-in-Some-clause-closed c = λ n low below.
    let target = c.args.self.now in
    let size = slot_size c.args.level in
    let at = c.args.base + n * size in
    held_end (closes at) target.held target.loadable target.cells.now c.loop-i.i c.in-Some.cell.now (is_marked c.loop-i.closed n) _ c.loop-i-test.false (c.loop-i.invariant.closed n low below)
    (c.mark_held-in-Some.ensures.closed n low below
    ∙ ap (λ rs. is_marked c.loop-i.closed n || list_any (λ (region : Region). takes false region at) rs) c.as_slice.ensures.value)
    ∙ ap (λ (extra : Option (Bor CellConfig)). list_any (closes at) (held_from target.held target.loadable 0 target.cells.now ++ holder_to_come extra)) (sym c.in-Some.is)
