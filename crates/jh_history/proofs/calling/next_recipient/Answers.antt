-- The first behind that is told, and none at the end.
use Rattle.std.proofs.Common.{◌≡◌, false, ◌||◌, ◌&&◌, refl, ap, sym, ◌∙◌}
use Rattle.jh_history.specs.Calls.{is_recipient_by}
use Rattle.jh_history.proofs.LiveLemmas.{has_number, next_told_is, told_from, told_from_found, told_from_next, told_from_end, nothing_left}
use Rattle.jh_history.proofs.calling.next_recipient.Goals as goal
use Rattle.jh_history.proofs.calling.next_recipient.Goals.{else-is_behind-via-then-is_behind+else-is_recipient, else-is_behind-via-else-is_behind, then-is_behind-2, else-is_behind-2}

pub returns-then-is_recipient : goal.returns-then-is_recipient
returns-then-is_recipient c = λ lives e.
    sym (told_from_found c.loop-cell.is_behind c.args.about c.args.id c.args.cells.now c.loop-cell.cell-index c.cell-item.result c.loop-cell-test.true c.cell-item.is c.if-is_behind.true (sym c.is_recipient.ensures ∙ c.if-is_recipient.true))
    ∙ c.loop-cell.invariant
    ∙ next_told_is c.args.about c.args.id lives c.args.cells.now e

pub loop-cell-preserved : goal.loop-cell-preserved
loop-cell-preserved c =
    let cell = c.cell-item.result in
    let fails : (c.loop-cell.is_behind && is_recipient_by c.args.about cell) ≡ false = elim c.else-is_behind.branch [
      | else-is_behind-via-then-is_behind+else-is_recipient w ↦ rw w.if-is_behind.true (sym w.is_recipient.ensures ∙ w.if-is_recipient.false)
      | else-is_behind-via-else-is_behind w ↦ rw w.if-is_behind.false refl
    ] in
    let passed : c.if-is_behind-2.is_behind ≡ (c.loop-cell.is_behind || has_number c.args.id cell) = elim c.if-is_behind-2.branch [
      | then-is_behind-2 w ↦ rw (w.is_behind-is, w.if-is_behind-2.true) refl
      | else-is_behind-2 w ↦ rw (w.is_behind-is, w.if-is_behind-2.false) refl
    ] in
    told_from_next c.loop-cell.is_behind c.if-is_behind-2.is_behind c.args.about c.args.id c.args.cells.now c.loop-cell.cell-index cell c.loop-cell-test.true c.cell-item.is fails passed
    ∙ c.loop-cell.invariant

pub returns : goal.returns
returns c = λ lives e.
    sym (told_from_end c.loop-cell.is_behind c.args.about c.args.id)
    ∙ ap (told_from c.loop-cell.is_behind c.args.about c.args.id) (sym (nothing_left c.args.cells.now c.loop-cell.cell-index c.loop-cell-test.false))
    ∙ c.loop-cell.invariant
    ∙ next_told_is c.args.about c.args.id lives c.args.cells.now e
