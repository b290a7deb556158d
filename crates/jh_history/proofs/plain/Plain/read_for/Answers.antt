-- What a create reads.
use Rattle.std.proofs.Common.{subst, ap, ◌∙◌}
use Rattle.jh_history.specs.Configs.{config_read}
use Rattle.jh_history.specs.Private.PlainView.{PlainView, HasSoundCells}
use Rattle.jh_history.proofs.PlainReadLemmas.{read_in, plain_reads}
use Rattle.jh_history.proofs.ReadLemmas.{read_by_is}
use Rattle.jh_history.proofs.plain.Plain.read_for.Goals as goal

pub returns-in_ok-read-in-Create : goal.returns-in_ok-read-in-Create
returns-in_ok-read-in-Create c = λ i f h.
    let fit : HasSoundCells c.args.self.now.image c.args.self.now.cells = subst (λ (p : PlainView). HasSoundCells p.image p.cells) c.self.view_is c.self.invariant in
    rw c.in-Create.is (c.comes.ensures ∙ ap config_read (c.in_ok-read-in-Create.ensures ∙ read_by_is i f (read_in c.args.self.now) c.in-Create.at (λ a. plain_reads c.args.self.now i f a fit h)))
