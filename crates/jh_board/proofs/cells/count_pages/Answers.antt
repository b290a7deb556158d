-- The pages fit 32 bits.
use Rattle.std.proofs.Common.{◌≡◌, ◌<◌, ◌^◌, List, length, ap, ◌∙◌, arith}
use Rattle.std.proofs.lemmas.List.{append-nil, length-map}
use Rattle.jh_cellcfg.specs.declared.config.CellConfig.{CellConfig}
use Rattle.jh_cellcfg.specs.declared.live.Live.{Live}
use Rattle.jh_shape.specs.Pages.{pages_of}
use Rattle.jh_shape.specs.Lives.{configs_of}
use Rattle.jh_board.proofs.CellsLemmas.{pages_fit}
use Rattle.jh_board.proofs.cells.count_pages.Goals as goal

pub overflow_cast-result : goal.overflow_cast-result
overflow_cast-result c =
    let lives = c.args.cells.now.lives in
    let regions = c.args.cells.now.system.root.memory_regions in
    let few = c.live_cells_differ.ensures.few in
    let len : length (configs_of lives) ≡ length lives = length-map lives (λ (l : Live). l.config) in
    let same : c.pages.result ≡ pages_of regions (configs_of lives) = c.pages.ensures ∙ ap (λ (cs : List CellConfig). pages_of regions cs) (append-nil (configs_of lives)) in
    let fit : c.pages.result < 2 ^ 32 = rw same (pages_fit regions (configs_of lives) (omega arith)) in
    omega arith
