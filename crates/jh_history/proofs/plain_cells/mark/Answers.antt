-- One cell more.
use Rattle.std.proofs.Common.{◌≡◌, ℕ, suc, ◌+◌, true, false, length, set, ◌∙◌, ap, sym, eq-eqb, arith, List, Bool}
use Rattle.std.proofs.lemmas.Bool.{ne_eqb}
use Rattle.jh_shape.specs.Lives.{with_marks}
use Rattle.jh_history.proofs.LiveLemmas.{has_number, marks_to, marks_to_all, marks_to_put, marks_to_skip}
use Rattle.jh_history.proofs.plain_cells.mark.Goals as goal
use Rattle.jh_history.proofs.plain_cells.mark.Goals.{then-from-id, else-from-id}

pub loop-i-preserved : goal.loop-i-preserved
loop-i-preserved c =
    let cells = c.args.cells.now in
    let marks = c.args.marks.now in
    let cell = c.index-cells-i.result in
    let next : suc c.loop-i.i ≡ c.loop-i.i + 1 = omega arith in
    elim c.if-from-id.branch [
      | then-from-id w ↦ (
          let it : has_number c.args.id cell ≡ true = eq-eqb cell.id c.args.id (sym c.from.ensures ∙ w.if-from-id.true) in
          w.marks-is
          ∙ ap (λ (ms : List Bool). set ms c.loop-i.i c.args.loadable) c.loop-i.invariant
          ∙ marks_to_put c.loop-i.i c.args.id c.args.loadable cells marks cell c.requires c.loop-i-test.true (ap (has_number c.args.id) (sym c.index-cells-i.is) ∙ it)
          ∙ ap (λ (n : ℕ). marks_to n c.args.id c.args.loadable cells marks) next)
      | else-from-id w ↦ (
          let other : has_number c.args.id cell ≡ false = ne_eqb cell.id c.args.id (λ e. w.if-from-id.false (c.from.ensures ∙ e)) in
          w.marks-is
          ∙ c.loop-i.invariant
          ∙ marks_to_skip c.loop-i.i c.args.id c.args.loadable cells marks cell c.requires c.loop-i-test.true (ap (has_number c.args.id) (sym c.index-cells-i.is) ∙ other)
          ∙ ap (λ (n : ℕ). marks_to n c.args.id c.args.loadable cells marks) next)
    ]

pub returns : goal.returns
returns c =
    let end : c.loop-i.i ≡ length c.args.cells.now = omega arith in
    ap (with_marks c.args.cells.now) (c.loop-i.invariant ∙ ap (λ (n : ℕ). marks_to n c.args.id c.args.loadable c.args.cells.now c.args.marks.now) end)
    ∙ marks_to_all c.args.id c.args.loadable c.args.cells.now c.args.marks.now c.requires
