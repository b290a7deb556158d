-- Bytes spell one configuration at most, and what they spell has no fault and is told by them.
use Rattle.jh_cellcfg.proofs.Faultless.{gives}
use Rattle.jh_cellcfg.proofs.SpelledFields.{told}
use Rattle.jh_cellcfg.proofs.read.read_cell.Goals as goal

pub returns-clause-only : goal.returns-clause-only
returns-clause-only c = gives c.args.bytes.now c.read_whole.result c.read_whole.ensures.typed c.read_whole.ensures.limits c.read_whole.ensures.spelled c.read_whole.ensures.fault

pub returns-clause-told : goal.returns-clause-told
returns-clause-told c = told c.args.bytes.now c.read_whole.result c.read_whole.ensures.typed c.read_whole.ensures.limits c.read_whole.ensures.spelled
