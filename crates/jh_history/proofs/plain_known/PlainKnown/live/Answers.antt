-- What is kept stands for the facts.
use Rattle.std.proofs.Common.{List, ap, sym, ◌∙◌}
use Rattle.jh_cellcfg.specs.declared.live.Live.{Live}
use Rattle.jh_shape.specs.Lives.{configs_of}
use Rattle.jh_history.specs.Private.PlainView.{PlainView}
use Rattle.jh_history.proofs.plain_known.PlainKnown.live.Goals as goal

pub returns : goal.returns
returns c = λ i f h. c.live_in.ensures f.cells (sym (c.configs.ensures ∙ ap (λ (lives : List Live). configs_of lives) (ap (λ (p : PlainView). p.cells) c.self.view_is ∙ sym h.0.cells)))
