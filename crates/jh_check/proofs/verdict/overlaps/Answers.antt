-- Of a live cell's pairs only the one with the new cell counts, and behind them none is left.
use Rattle.std.proofs.Common.{◌≡◌, ◌<◌, ◌++◌, [], ◌∷◌, true, false, length, get_or, refl, ◌∙◌, sym, length-append, arith}
use Rattle.std.specs.List.{list_any}
use Rattle.jh_check.specs.declared.rule.Rule.TheVariants.{CellsOverlap}
use Rattle.jh_check.specs.Private.Cells.{cells_of}
use Rattle.jh_check.specs.Findings.{from_cell, in_pairs}
use Rattle.jh_check.specs.Verdicts.{makes_busy}
use Rattle.jh_check.proofs.VerdictLemmas.{list_step, list_hit, busy_one, busy_end}
use Rattle.jh_check.proofs.verdict.overlaps.Goals as goal

pub loop-a-init : goal.loop-a-init
unfolding in_pairs
loop-a-init c = refl

pub returns-then-any_overlap : goal.returns-then-any_overlap
returns-then-any_overlap c =
    let xs = cells_of c.args.setup.now in
    let all = xs ++ c.args.new.now ∷ [] in
    let b = c.any_overlap.ensures in
    let i = c.if-any_overlap.true in
    let n = c.requires.number in
    let size = length-append xs (c.args.new.now ∷ []) in
    let h : c.loop-a.a < length all = omega arith in
    let o = busy_one xs c.args.new.now c.args.number c.loop-a.a c.cell.result.now c.requires.number c.loop-a-test.true c.cell.ensures in
    let e : list_any (makes_busy c.args.number) (from_cell CellsOverlap all c.loop-a.a (get_or all c.loop-a.a c.cell.result.now)) ≡ true = o ∙ sym b ∙ i in
    list_hit (makes_busy c.args.number) (from_cell CellsOverlap all) all c.loop-a.a c.cell.result.now _ h e c.loop-a.invariant

pub loop-a-preserved : goal.loop-a-preserved
loop-a-preserved c =
    let xs = cells_of c.args.setup.now in
    let all = xs ++ c.args.new.now ∷ [] in
    let b = c.any_overlap.ensures in
    let i = c.if-any_overlap.false in
    let n = c.requires.number in
    let size = length-append xs (c.args.new.now ∷ []) in
    let h : c.loop-a.a < length all = omega arith in
    let o = busy_one xs c.args.new.now c.args.number c.loop-a.a c.cell.result.now c.requires.number c.loop-a-test.true c.cell.ensures in
    let e : list_any (makes_busy c.args.number) (from_cell CellsOverlap all c.loop-a.a (get_or all c.loop-a.a c.cell.result.now)) ≡ false = o ∙ sym b ∙ i in
    list_step (makes_busy c.args.number) (from_cell CellsOverlap all) all c.loop-a.a c.cell.result.now _ h e c.loop-a.invariant

pub returns : goal.returns
returns c = busy_end (cells_of c.args.setup.now) c.args.new.now c.args.number c.loop-a.a _ c.requires.number (omega arith) c.loop-a.invariant
