-- What has the tag is left out, and a look-up of another tag finds nothing of that.
use Rattle.jh_cache.proofs.LawLemmas.{flushed_gone, flushed_others}
use Rattle.jh_cache.proofs.laws.a_flush_leaves_no_translation.Goals as goal

pub returns-clause-gone : goal.returns-clause-gone
returns-clause-gone c = λ list tag page. flushed_gone list tag page

pub returns-clause-others : goal.returns-clause-others
returns-clause-others c = λ list tag other page ne. flushed_others list tag other page ne
