-- What is cached is what a walk finds.
use Rattle.std.proofs.Common.{sym}
use Rattle.jh_reach.specs.Places.{sight_of}
use Rattle.jh_reach.proofs.CachedLemmas.{cached_look}
use Rattle.jh_reach.proofs.page.look_at.Goals as goal

pub returns-in-Some-clause-value : goal.returns-in-Some-clause-value
returns-in-Some-clause-value c =
    cached_look (sight_of c.args.frames.now c.args.cache.now c.args.cpu c.args.base) c.args.page c.in-Some.hit c.requires.cached (sym c.in-Some.ensures)
