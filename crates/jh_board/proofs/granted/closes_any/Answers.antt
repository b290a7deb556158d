-- The places are those of two rows.
use Rattle.std.proofs.Common.{sym, ◌∙◌}
use Rattle.jh_history.specs.Places.{places_of_row}
use Rattle.jh_board.proofs.GrantedLemmas.{kept_others, kept_low, kept_high}
use Rattle.jh_board.proofs.granted.closes_any.Goals as goal

pub returns-then-cell-root : goal.returns-then-cell-root
returns-then-cell-root c = kept_others c.args.image.now c.args.cells.now.lives c.args.cell c.args.places.now (λ e. c.if-cell-root.true (e ∙ sym c.root.ensures))

pub returns-then-closes_row : goal.returns-then-closes_row
returns-then-closes_row c =
    kept_low c.args.image.now c.args.cells.now.lives c.args.cell (places_of_row c.rows.result.0) (places_of_row c.rows.result.1) c.args.places.now c.closes_row.result (c.if-cell-root.false ∙ c.root.ensures) c.rows.ensures.places
    (c.closes_row.ensures c.args.image.now) c.if-closes_row.true

pub returns-else-closes_row : goal.returns-else-closes_row
returns-else-closes_row c =
    kept_high c.args.image.now c.args.cells.now.lives c.args.cell (places_of_row c.rows.result.0) (places_of_row c.rows.result.1) c.args.places.now c.closes_row.result c.closes_row-else-closes_row.result (c.if-cell-root.false ∙ c.root.ensures)
    c.rows.ensures.places (c.closes_row.ensures c.args.image.now) c.if-closes_row.false (c.closes_row-else-closes_row.ensures c.args.image.now)
