-- What is kept stands for the facts.
use Rattle.std.proofs.Common.{List, ap, sym, ◌∙◌}
use Rattle.jh_script.specs.declared.image.Image.{Image}
use Rattle.jh_cellcfg.specs.declared.live.Live.{Live}
use Rattle.jh_shape.specs.Lives.{configs_of}
use Rattle.jh_history.specs.Lives.{op_at}
use Rattle.jh_history.specs.Private.PlainView.{PlainView}
use Rattle.jh_history.proofs.plain_known.PlainKnown.operation.Goals as goal

pub returns-clause-told : goal.returns-clause-told
returns-clause-told c = λ i f h. c.op_at.ensures.op f (sym (c.configs.ensures ∙ ap (λ (lives : List Live). configs_of lives) (ap (λ (p : PlainView). p.cells) c.self.view_is ∙ sym h.0.cells))) ∙ ap (λ (x : Image). op_at x f c.args.state c.args.cpu) (ap (λ (p : PlainView). p.image) c.self.view_is ∙ sym h.0.same)
