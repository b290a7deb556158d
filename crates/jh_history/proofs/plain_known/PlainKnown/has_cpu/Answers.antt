-- What is kept stands for the facts.
use Rattle.std.proofs.Common.{ap, sym, ◌∙◌}
use Rattle.jh_script.specs.declared.image.Image.{Image}
use Rattle.jh_history.specs.Lives.{is_on_board}
use Rattle.jh_history.specs.Private.PlainView.{PlainView}
use Rattle.jh_history.proofs.plain_known.PlainKnown.has_cpu.Goals as goal

pub returns : goal.returns
returns c = λ i f h. c.is_on_board.ensures ∙ ap (λ (x : Image). is_on_board x c.args.cpu) (ap (λ (p : PlainView). p.image) c.self.view_is ∙ sym h.0.same)
