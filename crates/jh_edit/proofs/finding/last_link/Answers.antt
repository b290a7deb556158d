-- The deepest link from the first one of the table on.
use Rattle.jh_frames.specs.Memory.{byte_at, word_in}
use Rattle.jh_edit.proofs.FindingLemmas.{to_take_away}
use Rattle.jh_edit.proofs.finding.last_link.Goals as goal

pub returns-in-Some-clause-link : goal.returns-in-Some-clause-link
returns-in-Some-clause-link c = to_take_away (word_in (byte_at c.args.f.now)) c.args.below c.args.page c.in-Some.link c.deepest.result c.in-Some.ensures.link c.deepest.ensures.deep
