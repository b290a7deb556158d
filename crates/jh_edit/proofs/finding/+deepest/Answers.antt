-- The link is the deepest itself, or that of its first link is.
use Rattle.std.proofs.Common.{refl}
use Rattle.jh_frames.specs.Memory.{byte_at, word_in}
use Rattle.jh_edit.proofs.FindingLemmas.{deeper, link_is_last}
use Rattle.jh_edit.proofs.finding.+deepest.Goals as goal

pub returns-in-Some-clause-deep : goal.returns-in-Some-clause-deep
returns-in-Some-clause-deep t c = deeper (word_in (byte_at c.args.f.now)) c.args.link c.in-Some.below c.deepest.result c.requires.link c.in-Some.ensures.link c.deepest.ensures.deep

pub returns-in-None-clause-deep : goal.returns-in-None-clause-deep
returns-in-None-clause-deep t c = link_is_last (word_in (byte_at c.args.f.now)) c.args.link c.requires.link (c.in-None.ensures.none refl)
