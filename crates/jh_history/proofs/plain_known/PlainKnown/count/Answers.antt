-- What is kept stands for the facts.
use Rattle.std.proofs.Common.{List, ◌+◌, length, ap, sym, ◌∙◌}
use Rattle.jh_cellcfg.specs.declared.config.CellConfig.{CellConfig}
use Rattle.jh_cellcfg.specs.declared.live.Live.{Live}
use Rattle.jh_history.specs.Private.PlainView.{PlainView}
use Rattle.jh_history.proofs.FewLemmas.{configs_length}
use Rattle.jh_history.proofs.plain_known.PlainKnown.count.Goals as goal

pub returns : goal.returns
returns c = λ i f h. ap (λ n. n + 1) (ap (λ (cells : List CellConfig). length cells) c.configs.ensures ∙ configs_length c.self.inside.cells ∙ ap (λ (lives : List Live). length lives) (ap (λ (p : PlainView). p.cells) c.self.view_is ∙ sym h.0.cells))
