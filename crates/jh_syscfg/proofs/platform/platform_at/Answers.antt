-- The fields that are read spell 88 bytes, so what is left is what stands behind those.
use Rattle.std.proofs.Common.{sym, ap, ◌∙◌, drop}
use Rattle.jh_syscfg.proofs.Systems.{behind_platform}
use Rattle.jh_syscfg.proofs.platform.platform_at.Goals as goal

pub returns-clause-behind : goal.returns-clause-behind
returns-clause-behind c = sym (ap (drop 88) c.read_platform-platform.ensures.taken ∙ behind_platform c.read_platform-platform.result c.read_platform-platform.new.reader.rest.now c.read_platform-platform.ensures.fits)
