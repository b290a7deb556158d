-- In an admitted system nothing is found.
use Rattle.jh_talk.proofs.JoinLemmas.{clean_alone}
use Rattle.jh_talk.proofs.joining.may_join.Goals as goal

pub is_clean-requires : goal.is_clean-requires
is_clean-requires c = clean_alone c.args.system.now c.requires
