-- What is kept stands for the facts.
use Rattle.std.proofs.Common.{ap, sym, ◌∙◌}
use Rattle.jh_history.specs.Private.PlainView.{PlainView}
use Rattle.jh_history.proofs.plain_known.PlainKnown.call.Goals as goal

pub returns : goal.returns
returns c = λ i f h. c.as_ref.ensures.value ∙ ap (λ (p : PlainView). p.call) c.self.view_is ∙ sym h.0.call
