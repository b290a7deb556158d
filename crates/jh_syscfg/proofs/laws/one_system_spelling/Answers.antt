-- Fields of fixed width are the same where their bytes are, and so is root behind them.
use Rattle.jh_syscfg.proofs.Systems.{one_system_spelling}
use Rattle.jh_syscfg.proofs.laws.one_system_spelling.Goals as goal

pub returns : goal.returns
returns c = one_system_spelling
