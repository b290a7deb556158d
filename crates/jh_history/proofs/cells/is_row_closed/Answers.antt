-- One place more.
use Rattle.std.proofs.Common.{◌≡◌, ℕ, Bool, ap, sym, ◌∙◌, arith}
use Rattle.std.specs.List.{list_any}
use Rattle.jh_history.specs.declared.place.Place.{Place}
use Rattle.jh_history.specs.Grants.{is_closed_to}
use Rattle.jh_history.specs.Places.{places_in_row}
use Rattle.jh_history.proofs.LoopLemmas.{row_found, row_next_fails}
use Rattle.jh_history.proofs.cells.is_row_closed.Goals as goal

pub returns-then-is_closed_to : goal.returns-then-is_closed_to
returns-then-is_closed_to c =
    let kept : Place → Bool = is_closed_to c.args.image.now c.args.cells.now c.args.cell in
    sym (row_found kept c.args.row.first c.loop-k.k c.args.row.count c.loop-k-test.true (ap kept (sym c.further.ensures) ∙ sym c.is_closed_to.ensures ∙ c.if-is_closed_to.true))

pub loop-k-preserved : goal.loop-k-preserved
loop-k-preserved c =
    let kept : Place → Bool = is_closed_to c.args.image.now c.args.cells.now c.args.cell in
    row_next_fails kept c.args.row.first c.loop-k.k c.loop-k.invariant (ap kept (sym c.further.ensures) ∙ sym c.is_closed_to.ensures ∙ c.if-is_closed_to.false)

pub returns : goal.returns
returns c =
    let kept : Place → Bool = is_closed_to c.args.image.now c.args.cells.now c.args.cell in
    let end : c.loop-k.k ≡ c.args.row.count = omega arith in
    sym (ap (λ (n : ℕ). list_any kept (places_in_row c.args.row.first n)) (sym end) ∙ c.loop-k.invariant)
