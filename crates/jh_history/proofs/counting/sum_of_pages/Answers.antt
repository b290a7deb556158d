-- One cell more.
use Rattle.std.proofs.Common.{◌≡◌, ◌+◌, List, take, get_or, sum_by, sym, ap, ◌∙◌, arith}
use Rattle.std.proofs.lemmas.List.{take_all}
use Rattle.std.proofs.lemmas.List.Sums.{sum_by_more}
use Rattle.jh_cellcfg.specs.declared.config.CellConfig.{CellConfig}
use Rattle.jh_shape.specs.Pages.{own_pages}
use Rattle.jh_history.proofs.counting.sum_of_pages.Goals as goal

pub loop-i-preserved : goal.loop-i-preserved
loop-i-preserved c =
    let cells = c.args.cells.now in
    let i = c.loop-i.i in
    let d = c.index-cells-i.result in
    let more : sum_by own_pages (take (i + 1) cells) ≡ sum_by own_pages (take i cells) + own_pages (get_or cells i d) = sum_by_more own_pages cells i d c.loop-i-test.true in
    let item : c.cell_pages-pages.result ≡ own_pages (get_or cells i d) = c.cell_pages-pages.ensures.value ∙ ap own_pages c.index-cells-i.is in
    let bound = c.cell_pages-pages.ensures.bound in
    let so_far = c.loop-i.invariant.1 in (
      ap (λ m. m + c.cell_pages-pages.result) c.loop-i.invariant.0 ∙ ap (λ m. sum_by own_pages (take i cells) + m) item ∙ sym more,
      omega arith,
    )

pub returns-clause-value : goal.returns-clause-value
returns-clause-value c =
    c.loop-i.invariant.0 ∙ ap (λ (cells : List CellConfig). sum_by own_pages cells) (take_all c.loop-i.i c.args.cells.now c.loop-i-test.false)
