-- Each partner noted, for these devices or earlier ones, is the same section of linked devices.
use Rattle.jh_check.specs.Private.Links.{ArePartners}
use Rattle.jh_check.proofs.links.note.Given as goal

abbrev pub invariant-loop-k : goal.invariant-loop-k
invariant-loop-k l = ArePartners l.one l.other l.partners.items
