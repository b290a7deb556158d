-- A mask with all bits set makes each cell a holder.
use Rattle.std.proofs.Common.{◌++◌, [], true, List, ap, ◌∙◌}
use Rattle.jh_cellcfg.specs.declared.region.Region.{Region}
use Rattle.jh_shape.specs.Claims.{Holder, held_from}
use Rattle.jh_board.proofs.ClaimLemmas.{all_held}
use Rattle.jh_board.proofs.cells.LiveCells.root_target.Goals as goal

pub returns-clause-claims : goal.returns-clause-claims
returns-clause-claims c =
    rw (← c.self.view_is)
    (ap (λ (regions : List Region). record { regions = regions; root = true; holders = held_from 65535 c.loadable.result 0 c.list.result.now ++ []; comm = 0 }) c.as_slice.ensures.value
    ∙ ap (λ (holders : List Holder). record { regions = c.args.root.now.memory_regions; root = true; holders = holders; comm = 0 })
    (all_held c.loadable.result c.self.inside.cells.lives c.list.result.now c.list.ensures.value c.list.ensures.few c.loadable.ensures))
