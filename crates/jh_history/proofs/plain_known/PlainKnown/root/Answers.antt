-- What is kept stands for the facts.
use Rattle.std.proofs.Common.{ap, sym, ◌∙◌}
use Rattle.jh_script.specs.declared.image.Image.{Image}
use Rattle.jh_history.specs.Private.PlainView.{PlainView}
use Rattle.jh_history.proofs.plain_known.PlainKnown.root.Goals as goal

pub returns : goal.returns
returns c = λ i f h. ap (λ (x : Image). x.system.root.id) (ap (λ (p : PlainView). p.image) c.self.view_is ∙ sym h.0.same)
