-- What is noted so far are sections at the same offset of linked devices.
use Rattle.jh_check.specs.Private.Links.{ArePartners}
use Rattle.jh_check.proofs.links.find_partners.Given as goal

abbrev pub invariant-loop-m : goal.invariant-loop-m
invariant-loop-m l = ArePartners l.one l.other l.partners.items
