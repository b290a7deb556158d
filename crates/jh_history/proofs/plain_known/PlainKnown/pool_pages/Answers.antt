-- What is kept stands for the facts.
use Rattle.std.proofs.Common.{ap, sym, ◌∙◌}
use Rattle.jh_script.specs.declared.image.Image.{Image}
use Rattle.jh_history.specs.Admitted.{pool_pages}
use Rattle.jh_history.specs.Private.PlainView.{PlainView}
use Rattle.jh_history.proofs.plain_known.PlainKnown.pool_pages.Goals as goal

pub returns : goal.returns
returns c = λ i f h. c.pool_pages.ensures ∙ ap (λ (x : Image). pool_pages x.system) (ap (λ (p : PlainView). p.image) c.self.view_is ∙ sym h.0.same)
