-- What spells a system has no fault to refuse, and what is read of it has its spelling.
use Rattle.jh_syscfg.proofs.Systems.{gives_system}
use Rattle.jh_syscfg.proofs.read.read_system.Goals as goal

pub returns-clause-only : goal.returns-clause-only
returns-clause-only c = gives_system c.args.bytes.now c.read_whole.result c.read_whole.ensures.typed c.read_whole.ensures.limits c.read_whole.ensures.spelled c.read_whole.ensures.fault
