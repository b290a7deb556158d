-- Both names are printable.
use Rattle.std.proofs.Common.{[], ◌∷◌, ◌++◌, ◌∙◌, refl}
use Rattle.jh_cellcfg.specs.Limits.{is_name}
use Rattle.jh_run.specs.Soak.{cell_a, cell_b}
use Rattle.jh_run.proofs.soak.preloads.Goals as goal

pub preloaded_cell-requires : goal.preloaded_cell-requires
unfolding is_name
preloaded_cell-requires c = refl

pub preloaded_cell-requires-2 : goal.preloaded_cell-requires-2
unfolding is_name
preloaded_cell-requires-2 c = refl

pub returns : goal.returns
unfolding cell_a cell_b
returns c =
    let first = c.in_ok-push.ensures.ok ∙ (λ i. c.new-preloads.ensures i ++ c.in_ok-preloaded_cell.ensures i ∷ []) in
    c.in_ok-push-2.ensures.ok ∙ (λ i. first i ++ c.in_ok-preloaded_cell-2.ensures i ∷ [])
