-- The regions are root's, or those of another cell.
use Rattle.std.proofs.Common.{List, ℕ, ap, sym, ◌∙◌}
use Rattle.std.specs.Prelude.{find}
use Rattle.jh_cellcfg.specs.declared.region.Region.{Region}
use Rattle.jh_mmio.specs.Dispatch.{takes_all}
use Rattle.jh_board.specs.Private.Found.{live_regions}
use Rattle.jh_board.proofs.GrantedLemmas.{regions_root, regions_live}
use Rattle.jh_board.proofs.granted.whole.Goals as goal

pub returns-then-cell-root-clause-found : goal.returns-then-cell-root-clause-found
returns-then-cell-root-clause-found c = λ closed.
    ap (λ (rs : List Region). find (takes_all closed c.args.wanted.now.at c.args.wanted.now.width) rs) (regions_root c.args.image.now c.args.cells.now.lives c.args.cell (c.if-cell-root.true ∙ c.root.ensures))
    ∙ c.subpage.ensures.found closed

pub returns-else-cell-root-clause-found : goal.returns-else-cell-root-clause-found
returns-else-cell-root-clause-found c = λ closed.
    ap (λ (rs : List Region). find (takes_all closed c.args.wanted.now.at c.args.wanted.now.width) rs) (regions_live c.args.image.now c.args.cells.now.lives c.args.cell (λ own. c.if-cell-root.false (own ∙ sym c.root.ensures)))
    ∙ ap (λ (id : ℕ). find (takes_all closed c.args.wanted.now.at c.args.wanted.now.width) (live_regions c.args.cells.now.lives id)) (sym c.from.ensures)
    ∙ c.subpage-else-cell-root.ensures.found closed
