-- What is kept stands for the facts.
use Rattle.std.proofs.Common.{List, ap, sym, ◌∙◌}
use Rattle.jh_script.specs.declared.image.Image.{Image}
use Rattle.jh_cellcfg.specs.declared.live.Live.{Live}
use Rattle.jh_shape.specs.Lives.{configs_of}
use Rattle.jh_history.specs.Lives.{cell_in}
use Rattle.jh_history.specs.Private.PlainView.{PlainView}
use Rattle.jh_history.proofs.plain_known.PlainKnown.cell.Goals as goal

pub returns : goal.returns
returns c = λ i f h. c.config_in.ensures f.cells (sym (c.configs.ensures ∙ ap (λ (lives : List Live). configs_of lives) (ap (λ (p : PlainView). p.cells) c.self.view_is ∙ sym h.0.cells))) ∙ ap (λ (x : Image). cell_in x f.cells c.args.id) (ap (λ (p : PlainView). p.image) c.self.view_is ∙ sym h.0.same)
