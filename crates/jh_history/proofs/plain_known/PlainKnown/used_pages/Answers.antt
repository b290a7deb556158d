-- What is kept stands for the facts.
use Rattle.std.proofs.Common.{List, [], ◌++◌, ap, sym, ◌∙◌}
use Rattle.std.proofs.lemmas.List.{append-nil}
use Rattle.jh_cellcfg.specs.declared.config.CellConfig.{CellConfig}
use Rattle.jh_cellcfg.specs.declared.region.Region.{Region}
use Rattle.jh_shape.specs.Pages.{pages_of}
use Rattle.jh_script.specs.declared.image.Image.{Image}
use Rattle.jh_cellcfg.specs.declared.live.Live.{Live}
use Rattle.jh_shape.specs.Lives.{configs_of}
use Rattle.jh_history.specs.Private.PlainView.{PlainView}
use Rattle.jh_history.proofs.plain_known.PlainKnown.used_pages.Goals as goal

pub returns : goal.returns
returns c = λ i f h.
    c.pages_of.ensures
    ∙ ap (λ (regions : List Region). pages_of regions (c.configs-cells.result.now ++ [])) c.as_slice-root.ensures.value
    ∙ ap (λ (x : Image). pages_of x.system.root.memory_regions (c.configs-cells.result.now ++ [])) (ap (λ (p : PlainView). p.image) c.self.view_is ∙ sym h.0.same)
    ∙ ap (λ (cells : List CellConfig). pages_of i.system.root.memory_regions cells) (append-nil c.configs-cells.result.now ∙ sym (sym (c.configs-cells.ensures ∙ ap (λ (lives : List Live). configs_of lives) (ap (λ (p : PlainView). p.cells) c.self.view_is ∙ sym h.0.cells))))
