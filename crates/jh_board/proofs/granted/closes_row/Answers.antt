-- Its places are those of a row.
use Rattle.std.proofs.Common.{ℕ, ap, ◌∙◌}
use Rattle.std.specs.List.{list_any}
use Rattle.jh_history.specs.Grants.{is_closed_to}
use Rattle.jh_history.specs.Places.{places_in_row}
use Rattle.jh_board.proofs.granted.closes_row.Goals as goal

pub returns : goal.returns
returns c = λ i. c.closes_places.ensures i ∙ ap (λ (n : ℕ). list_any (is_closed_to i c.args.cells.now.lives i.system.root.id) (places_in_row c.args.row.first n)) c.from.ensures
