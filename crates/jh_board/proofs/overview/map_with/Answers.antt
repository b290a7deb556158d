-- Root is kept from the places that the cells close, and no other cell from any.
use Rattle.std.proofs.Common.{sym, ◌∙◌}
use Rattle.jh_num.specs.Bytes.{has_byte}
use Rattle.jh_board.specs.Maps.{is_closed_at}
use Rattle.jh_board.proofs.RegionMapLemmas.{kept_root, kept_other, map_of_kept}
use Rattle.jh_board.proofs.overview.map_with.Goals as goal

pub returns-then-id-root : goal.returns-then-id-root
returns-then-id-root c = map_of_kept (has_byte c.closed.result.now.ranges) (is_closed_at c.args.image.now c.args.cells.now.lives c.args.id) c.args.regions.now c.map_of.result
    (λ p. kept_root c.args.image.now c.args.cells.now.lives c.args.id p (has_byte c.closed.result.now.ranges p) (c.if-id-root.true ∙ c.root.ensures) (c.closed.ensures p)) c.map_of.ensures

pub returns-else-id-root : goal.returns-else-id-root
returns-else-id-root c = map_of_kept (has_byte c.new.result.ranges) (is_closed_at c.args.image.now c.args.cells.now.lives c.args.id) c.args.regions.now c.map_of-else-id-root-2.result
    (λ p. kept_other c.args.image.now c.args.cells.now.lives c.args.id p c.new.result.ranges c.new.ensures (λ e. c.if-id-root.false (e ∙ sym c.root.ensures))) c.map_of-else-id-root-2.ensures
