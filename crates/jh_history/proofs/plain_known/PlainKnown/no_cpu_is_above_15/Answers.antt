-- What is kept stands for the facts.
use Rattle.std.proofs.Common.{ℕ, ◌<◌, ap, sym, subst, ◌∙◌}
use Rattle.std.specs.Prelude.{IsTrue}
use Rattle.jh_script.specs.declared.image.Image.{Image}
use Rattle.jh_history.specs.Lives.{is_on_board}
use Rattle.jh_history.specs.Private.PlainView.{PlainView}
use Rattle.jh_history.proofs.plain_known.PlainKnown.no_cpu_is_above_15.Goals as goal

pub returns : goal.returns
returns c = λ i f h. subst (λ (x : Image). (cpu : ℕ) → IsTrue (is_on_board x cpu) → cpu < 16) (ap (λ (p : PlainView). p.image) c.self.view_is ∙ sym h.0.same) (c.admitted_roots_are_sound.ensures.cpus c.self.invariant.admitted)
