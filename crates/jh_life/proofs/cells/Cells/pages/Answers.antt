-- The pages that are kept as taken are those that the listed cells take together.
use Rattle.std.proofs.Common.{List, ◌++◌, sum_by, sym, ap, ◌∙◌}
use Rattle.std.specs.Prelude.{option_to_list}
use Rattle.std.specs.Option.{option_copied}
use Rattle.jh_cellcfg.specs.declared.config.CellConfig.{CellConfig}
use Rattle.jh_cellcfg.specs.declared.region.Region.{Region}
use Rattle.jh_shape.specs.Pages.{own_pages, pages_of}
use Rattle.jh_shape.proofs.Public.{configs_joined}
use Rattle.jh_life.proofs.cells.Cells.pages.Goals as goal

pub pages_of-requires-clause-taken : goal.pages_of-requires-clause-taken
pages_of-requires-clause-taken c =
    c.self.invariant.pages ∙ ap (λ (cells : List CellConfig). sum_by own_pages cells) (sym c.as_slice-2.ensures.value)

pub returns : goal.returns
returns c =
    let more : List CellConfig = option_to_list (option_copied c.args.extra) in
    rw (← c.self.view_is)
    (c.pages_of.ensures
    ∙ ap (λ (regions : List Region). pages_of regions (c.as_slice-2.result.now ++ more)) c.as_slice.ensures.value
    ∙ ap (λ (cells : List CellConfig). pages_of c.self.inside.system.root.memory_regions (cells ++ more))
    (c.as_slice-2.ensures.value ∙ sym (configs_joined c.self.inside.configs.items c.self.inside.marks.items c.self.invariant.even)))
