use Rattle.std.proofs.Common.{sym, ◌∙◌}
use Rattle.jh_edit.proofs.turning.give_back.Goals as goal

pub give-requires : goal.give-requires
give-requires c = c.requires c.in-Some.page (sym c.gone_comm.ensures ∙ c.in-Some.is)
