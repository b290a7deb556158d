-- What is kept stands for the facts.
use Rattle.std.proofs.Common.{ℕ, get_or, ap, ◌∙◌}
use Rattle.std.specs.Prelude.{slice_get}
use Rattle.std.proofs.lemmas.Option.{get_or_from_slice_get}
use Rattle.jh_cpu.specs.Changes.{opened}
use Rattle.jh_history.specs.Private.PlainView.{PlainView}
use Rattle.jh_history.proofs.plain_known.PlainKnown.cpu.Goals as goal

pub returns : goal.returns
returns c = λ i f h. ap (λ (n : ℕ). get_or c.self.inside.cpus n (opened 0)) c.from.ensures ∙ get_or_from_slice_get c.self.inside.cpus c.args.cpu (f.cpu c.args.cpu) (opened 0) (ap (λ (p : PlainView). slice_get p.cpus c.args.cpu) c.self.view_is ∙ h.0.cpus c.args.cpu c.requires)
